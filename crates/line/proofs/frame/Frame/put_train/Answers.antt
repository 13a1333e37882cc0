use Rattle.line.proofs.Kept.{kept_put}
use Rattle.line.proofs.frame.Frame.put_train.Goals as goal

pub invariant_of-self-clause-placed : goal.invariant_of-self-clause-placed
invariant_of-self-clause-placed c =
    kept_put c.args.self.now.laying _ c.args.self.now.placed c.args.index c.args.train c.requires.kept
