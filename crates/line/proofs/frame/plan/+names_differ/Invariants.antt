use Rattle.std.proofs.Common.{length}
use Rattle.line.proofs.frame.plan.«+names_differ».Given as goal

abbrev pub decreases-names_differ : goal.decreases-names_differ
decreases-names_differ l = length l.plan.now
