use Rattle.std.proofs.Common.{◌≡◌, ℕ, zero, suc, ◌+◌, ◌-◌, ◌<◌, ◌≤◌, min, true, false}
use Rattle.std.proofs.Common.{List, Some, None, Option, MatchOption, ◌∙◌, inl, inr, refl, rules, arith}
use Rattle.std.specs.Option.{unwrap_or}
use Rattle.std.proofs.lemmas.Iterator.{first_from_Range}
use Rattle.std.proofs.lemmas.Bool.{cases_eq, cases_lt}
use Rattle.rules.specs.declared.detection.Cell.{Cell}
use Rattle.track.specs.Cells.{reads_vacant}
use Rattle.tour.specs.Ahead.{vacant_from}
use Rattle.tour.proofs.signal.vacant_to.Goals as goal

-- from the section after so many on, the count ends at the first that is not vacant, or past the last
ends_at : (cells : List Cell) (at n end : ℕ) → at ≤ end → end ≤ at + n
    → ((k : ℕ) → at ≤ k → k < end → reads_vacant cells (k + 1) ≡ true)
    → (end < at + n → reads_vacant cells (end + 1) ≡ false) → vacant_from cells (at + 1) n ≡ end - at
ends_at cells at zero end low high before here = omega arith
ends_at cells at (suc n) end low high before here =
    elim (cases_eq end at) [
      | inl e ↦
          let last : reads_vacant cells (at + 1) ≡ false = rw e at (here (omega arith)) in
          rw last (omega arith)
      | inr ne ↦
          rw (before at (omega arith) (omega arith))
          (omega (
            arith,
            ends_at cells (at + 1) n end (omega arith) (omega arith)
                (λ k l u. before k (omega arith) u) (λ u. here (omega arith)),
          ))
    ]

-- what a search of the range answers: the count ends where it ends
ends_found : (cells : List Cell) (low high : ℕ) (found : Option ℕ)
    → MatchOption found ((k : ℕ) → low ≤ k → k < high → reads_vacant cells (k + 1) ≡ true)
    (λ i. (low ≤ i) × (i < high) × (reads_vacant cells (i + 1) ≡ false)
    × ((k : ℕ) → low ≤ k → k < i → reads_vacant cells (k + 1) ≡ true))
    → unwrap_or found high ≡ min low high + vacant_from cells (low + 1) (high - low)
ends_found cells low high None all =
    elim (cases_lt low high) [
      | inl l ↦
          omega (
            arith,
            ends_at cells low (high - low) high (omega arith) (omega arith) all (λ u. absurd (omega arith)),
          )
      | inr g ↦ (let e : high - low ≡ 0 = omega arith in rw e (omega arith))
    ]
ends_found cells low high (Some i) h =
    omega (
      arith,
      ends_at cells low (high - low) i h.0 (omega (arith, h.1)) h.3 (λ u. h.2),
    )

pub returns : goal.returns
returns g c =
    let cells = g.T.Track.cells c.args.track.now in
    c.unwrap_or.ensures
    ∙ (ends_found cells c.args.passed.start c.args.passed.end c.find.result
    (first_from_Range _ _ _ c.find.result (λ k. reads_vacant cells (k + 1) ≡ false)
    (λ k. reads_vacant cells (k + 1) ≡ true) c.find.ensures.ran (λ x q called. search rules)
    (λ x q called. search rules)))
