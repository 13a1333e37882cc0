use Rattle.std.proofs.Common.{◌≡◌, take, vec_items, vec_len, vec_capacity}
use Rattle.line.proofs.frame.plan.copy.Given as goal

abbrev pub invariant-loop-entry : goal.invariant-loop-entry
invariant-loop-entry l =
    (vec_items l.into ≡ take l.entry-index l.plan) × (vec_len l.into ≡ l.entry-index)
    × (vec_capacity l.into ≡ vec_capacity l.initial.into)
