use Rattle.std.proofs.Common.{◌≡◌, ◌*◌, ◌≤◌, take}
use Rattle.line.proofs.Metres.{metres_sum}
use Rattle.line.proofs.frame.plan.sum_metres.Given as goal

abbrev pub invariant-loop-entry : goal.invariant-loop-entry
invariant-loop-entry l = (l.metres ≡ metres_sum (take l.entry-index l.part)) × (l.metres ≤ 9999 * l.entry-index)
