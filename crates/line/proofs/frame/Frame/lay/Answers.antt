use Rattle.std.proofs.lemmas.Bool.{and_parts}
use Rattle.rules.specs.Calls.{legal_laying, legal_plan}
use Rattle.line.proofs.Kept.{plan_of_laying}
use Rattle.line.proofs.frame.Frame.lay.Goals as goal

pub invariant_of-self-clause-planned : goal.invariant_of-self-clause-planned
invariant_of-self-clause-planned c =
    let legal = and_parts (legal_laying c.args.laying) (legal_plan c.args.laying c.args.plan.now) c.requires.legal in
    rw c.copy.ensures.items (plan_of_laying c.args.laying c.args.plan.now legal.1)
