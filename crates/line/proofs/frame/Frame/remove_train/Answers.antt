use Rattle.std.proofs.Common.{arith}
use Rattle.line.proofs.Kept.{kept_removed}
use Rattle.line.proofs.frame.Frame.remove_train.Goals as goal

pub invariant_of-self-clause-placed : goal.invariant_of-self-clause-placed
invariant_of-self-clause-placed c =
    let self = c.args.self.now in
    rw c.remove.ensures.by_index.2 (kept_removed self.laying _ self.placed c.args.index (omega (arith, c.requires)))
