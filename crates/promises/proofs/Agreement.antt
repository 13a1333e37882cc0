-- Trains, closings and track agree, and an entering or a leaving that the track is told of keeps it so.
use Rattle.std.proofs.Common.{◌≡◌, ℕ, ◌+◌, ◌-◌, ◌*◌, ◌≤◌, Bool, true, false, eqb, List, length, get_or, set}
use Rattle.std.proofs.Common.{Some, None, Option, refl, ap, ◌∙◌, inl, inr, one-mul, zero-mul, arith}
use Rattle.std.proofs.lemmas.List.{length-set, get_or-set_same, get_or-set_other, get_or_past, set_past}
use Rattle.std.proofs.lemmas.Bool.{cases_Bool, cases_eq, cases_lt, eqb-true, eq-eqb, both_ways, not-false}
use Rattle.rules.specs.Detection.{cell_of, state_of, state_number, legal_section, legal_axles, with_held}
use Rattle.rules.specs.Detection.{with_failed, with_cell}
use Rattle.rules.specs.Detection.{track_rows, track_verdict, track_effect, track_after}
use Rattle.rules.specs.Table.{after}
use Rattle.rules.specs.declared.detection.Cell.{Cell}
use Rattle.rules.specs.declared.detection.TrackCall.TheVariants.{Enter, Leave, Fail, Mend}
use Rattle.rules.specs.declared.line.Train.{Train}
use Rattle.rules.specs.declared.refusal.Refusal.{Refusal}
use Rattle.promises.specs.Sound.{Agree, load, one_if, total}
use Rattle.rules.proofs.Rows.{none_hold}
use Rattle.rules.proofs.TrackRuns.{in_reach, one_changed}

-- the track takes it
enter_taken : (mark : ℕ → ℕ) (cells : List Cell) (t axles : ℕ) → legal_section t ≡ true → legal_axles axles ≡ true
    → state_number (state_of (cell_of cells t)) ≡ 0 → track_verdict mark cells (Enter t axles) ≡ None
enter_taken mark cells t axles legal good vacant = rw (legal, good, vacant)

leave_taken : (mark : ℕ → ℕ) (cells : List Cell) (t axles : ℕ) → legal_section t ≡ true → legal_axles axles ≡ true
    → (cell_of cells t).held ≡ mark axles → track_verdict mark cells (Leave t axles) ≡ None
leave_taken mark cells t axles legal good same = rw (legal, good, eq-eqb _ _ same)

module _ (mark : ℕ → ℕ) (n : ℕ) (trains then : List Train) (closed : List Bool) (cells : List Cell) (t axles : ℕ)
    (legal : legal_section t ≡ true) (good : legal_axles axles ≡ true) (agree : Agree mark n trains closed cells) where
  -- trains that stand in section t once more
  pub entered : ((s : ℕ) → total n s then ≡ total n s trains + one_if (eqb t s))
      → ((s : ℕ) → load mark n s then ≡ load mark n s trains + one_if (eqb t s) * mark axles)
      → state_number (state_of (cell_of cells t)) ≡ 0 → get_or closed (t - 1) false ≡ false → total n t trains ≡ 0
      → (track_verdict mark cells (Enter t axles) ≡ None) × Agree mark n then closed
      (track_after mark cells (Enter t axles))
  entered more heavier vacant unclosed empty =
      let taken = enter_taken mark cells t axles legal good vacant in
      let add : Cell → Cell = λ cell. with_held cell (cell.held + mark axles) in
      let now : track_after mark cells (Enter t axles) ≡ with_cell cells t (add (cell_of cells t)) =
      ap (λ v. after v cells (track_effect mark cells (Enter t axles))) taken in (
        taken,
        rw now (record {
          sized = length-set cells (t - 1) (add (cell_of cells t)) ∙ agree.sized;
          one = λ s in_use. elim (cases_Bool (eqb t s)) [
            | inl e ↦ let same : t ≡ s = eqb-true t s e in rw (more s, e) (omega (arith, rw same at empty))
            | inr e ↦ rw (more s, e) (omega (arith, agree.one s in_use))
          ];
          held = λ s in_use.
              rw (one_changed cells t s add agree.sized legal in_use)
              (elim (cases_Bool (eqb t s)) [
                | inl e ↦ rw (heavier s, e) (omega (arith, agree.held s in_use, one-mul (mark axles)))
                | inr e ↦ rw (heavier s, e) (omega (arith, agree.held s in_use, zero-mul (mark axles)))
              ]);
          unshut = λ s in_use shut. elim (cases_Bool (eqb t s)) [
            | inl e ↦ let same : t ≡ s = eqb-true t s e in absurd (both_ways _ (rw same at unclosed) shut)
            | inr e ↦ rw (more s, e) (omega (arith, agree.unshut s in_use shut))
          ];
        }),
      )

  -- trains that stand in section t once less
  pub left : ((s : ℕ) → total n s trains ≡ total n s then + one_if (eqb t s))
      → ((s : ℕ) → load mark n s trains ≡ load mark n s then + one_if (eqb t s) * mark axles)
      → (cell_of cells t).held ≡ mark axles
      → (track_verdict mark cells (Leave t axles) ≡ None) × Agree mark n then closed
      (track_after mark cells (Leave t axles))
  left less lighter same_mark =
      let taken = leave_taken mark cells t axles legal good same_mark in
      let take : Cell → Cell = λ cell. with_held cell (cell.held - mark axles) in
      let now : track_after mark cells (Leave t axles) ≡ with_cell cells t (take (cell_of cells t)) =
      ap (λ v. after v cells (track_effect mark cells (Leave t axles))) taken in (
        taken,
        rw now (record {
          sized = length-set cells (t - 1) (take (cell_of cells t)) ∙ agree.sized;
          one = λ s in_use. omega (arith, less s, agree.one s in_use);
          held = λ s in_use.
              rw (one_changed cells t s take agree.sized legal in_use)
              (elim (cases_Bool (eqb t s)) [
                | inl e ↦ rw e (omega (arith, rw e at (lighter s), agree.held s in_use, one-mul (mark axles)))
                | inr e ↦ rw e (omega (arith, rw e at (lighter s), agree.held s in_use, zero-mul (mark axles)))
              ]);
          unshut = λ s in_use shut. omega (arith, less s, agree.unshut s in_use shut);
        }),
      )

-- failing and mending touch no number held
order_kept : (mark : ℕ → ℕ) (n : ℕ) (trains : List Train) (closed : List Bool) (cells : List Cell) (t : ℕ) (b : Bool)
    → legal_section t ≡ true → Agree mark n trains closed cells
    → Agree mark n trains closed (with_cell cells t (with_failed (cell_of cells t) b))
order_kept mark n trains closed cells t b legal agree = record {
  sized = length-set cells (t - 1) (with_failed (cell_of cells t) b) ∙ agree.sized;
  one = agree.one;
  held = λ s in_use.
      rw (one_changed cells t s (λ cell. with_failed cell b) agree.sized legal in_use)
      (elim (cases_Bool (eqb t s)) [ inl e ↦ rw e (agree.held s in_use) | inr e ↦ rw e (agree.held s in_use) ]);
  unshut = agree.unshut;
}

pub failed_kept : (mark : ℕ → ℕ) (n : ℕ) (trains : List Train) (closed : List Bool) (cells : List Cell) (t : ℕ)
    → Agree mark n trains closed cells → Agree mark n trains closed (track_after mark cells (Fail t))
failed_kept mark n trains closed cells t agree = by_verdict (track_verdict mark cells (Fail t)) refl where
  by_verdict : (met : Option Refusal) → track_verdict mark cells (Fail t) ≡ met
      → Agree mark n trains closed (after met cells (track_effect mark cells (Fail t)))
  by_verdict None e =
      order_kept mark n trains closed cells t true
      (not-false (legal_section t) (none_hold (track_rows mark cells (Fail t)) e).0) agree
  by_verdict (Some refusal) e = agree

pub mended_kept : (mark : ℕ → ℕ) (n : ℕ) (trains : List Train) (closed : List Bool) (cells : List Cell) (t : ℕ)
    → Agree mark n trains closed cells → Agree mark n trains closed (track_after mark cells (Mend t))
mended_kept mark n trains closed cells t agree = by_verdict (track_verdict mark cells (Mend t)) refl where
  by_verdict : (met : Option Refusal) → track_verdict mark cells (Mend t) ≡ met
      → Agree mark n trains closed (after met cells (track_effect mark cells (Mend t)))
  by_verdict None e =
      order_kept mark n trains closed cells t false
      (not-false (legal_section t) (none_hold (track_rows mark cells (Mend t)) e).0) agree
  by_verdict (Some refusal) e = agree

-- a slip given for a section where none stands, and one handed in
pub shut_kept : (mark : ℕ → ℕ) (n : ℕ) (trains : List Train) (closed : List Bool) (cells : List Cell) (k : ℕ)
    → 1 ≤ k → total n k trains ≡ 0 → Agree mark n trains closed cells
    → Agree mark n trains (set closed (k - 1) true) cells
shut_kept mark n trains closed cells k low none agree = record {
  sized = agree.sized;
  one = agree.one;
  held = agree.held;
  unshut = λ s in_use shut.
      elim (cases_eq (s - 1) (k - 1)) [
        | inl e ↦ let same : s ≡ k = omega (arith, (in_reach s in_use).0) in rw same none
        | inr other ↦ agree.unshut s in_use (rw (get_or-set_other closed (k - 1) (s - 1) true false other) at shut)
      ];
}

pub opened_kept : (mark : ℕ → ℕ) (n : ℕ) (trains : List Train) (closed : List Bool) (cells : List Cell) (k : ℕ)
    → Agree mark n trains closed cells → Agree mark n trains (set closed (k - 1) false) cells
opened_kept mark n trains closed cells k agree = record {
  sized = agree.sized;
  one = agree.one;
  held = agree.held;
  unshut = λ s in_use shut.
      elim (cases_eq (s - 1) (k - 1)) [
        | inl e ↦ elim (cases_lt (k - 1) (length closed)) [
          | inl l ↦ absurd (both_ways _ (get_or-set_same closed (k - 1) false false l) (rw e at shut))
          | inr past ↦
              absurd (both_ways _ (rw (set_past closed (k - 1) false past) (get_or_past closed (k - 1) false past))
              (rw e at shut))
        ]
        | inr other ↦ agree.unshut s in_use (rw (get_or-set_other closed (k - 1) (s - 1) false false other) at shut)
      ];
}
