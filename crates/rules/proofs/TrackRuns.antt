-- Every section reads what an onlooker has seen of it: shown for one call, then over the list.
use Rattle.std.proofs.Common.{◌≡◌, ℕ, ◌+◌, ◌-◌, ◌<◌, ◌≤◌, Bool, true, false, cond, not, eqb, ltb, leb, List, [], ◌∷◌}
use Rattle.std.proofs.Common.{◌++◌, length, is_some, Some, None, Option, refl, ◌∙◌, inl, inr, arith}
use Rattle.std.proofs.lemmas.List.{length-set, get_or-set_same, get_or-set_other, get_or-replicate}
use Rattle.std.proofs.lemmas.Bool.{cases_Bool, and_parts, leb-true, ltb-false, eqb-true, eqb-false, not-false, lt-ltb}
use Rattle.rules.specs.Table.{after}
use Rattle.rules.specs.Detection.{new_cell, new_cells, cell_of, with_cell, with_held, with_failed}
use Rattle.rules.specs.Detection.{state_of, state_number, legal_section, legal_axles}
use Rattle.rules.specs.Detection.{track_rows, track_verdict, track_effect, track_after}
use Rattle.rules.specs.Detection.{as_answer, track_result, track_answer}
use Rattle.rules.specs.TrackRuns.{run_after, transcript, Seen, nothing_seen, see}
use Rattle.rules.specs.TrackRuns.{see_all, reading, Lawful, GoesOn}
use Rattle.rules.specs.declared.detection.Cell.{Cell}
use Rattle.rules.specs.declared.detection.SectionState.TheVariants.{Vacant, Occupied, OutOfOrder}
use Rattle.rules.specs.declared.detection.TrackCall.{TrackCall}
use Rattle.rules.specs.declared.detection.TrackCall.TheVariants.{State, Enter, Leave, Fail, Mend}
use Rattle.rules.specs.declared.refusal.Refusal.{Refusal}
use Rattle.rules.proofs.Rows.{none_hold}

pub in_reach : (s : ℕ) → legal_section s ≡ true → (1 ≤ s) × (s ≤ 24)
in_reach s legal =
    let both = and_parts (leb 1 s) (leb s 24) legal in
    (leb-true 1 s both.0, leb-true s 24 both.1)

-- one cell changed, read at any section
pub one_changed : (cells : List Cell) (t s : ℕ) (change : Cell → Cell) → length cells ≡ 24
    → legal_section t ≡ true → legal_section s ≡ true
    → cell_of (with_cell cells t (change (cell_of cells t))) s
    ≡ cond (eqb t s) (change (cell_of cells s)) (cell_of cells s)
one_changed cells t s change sized legal_t legal_s =
    let low_t = (in_reach t legal_t).0 in
    let low_s = (in_reach s legal_s).0 in
    let high_s = (in_reach s legal_s).1 in
    elim (cases_Bool (eqb t s)) [
      | inl e ↦
          let same : t ≡ s = eqb-true t s e in
          let within : s - 1 < length cells = omega arith in
          rw (e, same) (get_or-set_same cells (s - 1) (change (cell_of cells s)) new_cell within)
      | inr e ↦
          let other = eqb-false t s e in
          rw e (get_or-set_other cells (t - 1) (s - 1) (change (cell_of cells t)) new_cell (λ h. other (omega arith)))
    ]

-- the number that a train inside makes a section hold
abbrev held_by : (ℕ → ℕ) → Option ℕ → ℕ
held_by mark None = 0
held_by mark (Some axles) = mark axles

abbrev legal_train : Option ℕ → Bool
legal_train None = true
legal_train (Some axles) = legal_axles axles

-- a cell is as an onlooker must think
record Agrees (mark : ℕ → ℕ) (cell : Cell) (seen : Seen) : Type 0 where
  held : cell.held ≡ held_by mark seen.inside
  order : cell.failed ≡ seen.failed
  legal : legal_train seen.inside ≡ true

-- at the section of the call the cell and the onlooker change together, at another neither does
at_either : (mark : ℕ → ℕ) (b : Bool) (cell : Cell) (seen : Seen) (changed : Cell) (seen_then : Seen)
    → (b ≡ true → Agrees mark changed seen_then) → Agrees mark cell seen
    → Agrees mark (cond b changed cell) (cond b seen_then seen)
at_either mark true cell seen changed seen_then there agrees = there refl
at_either mark false cell seen changed seen_then there agrees = agrees

vacant_tests : (failed held : Bool)
    → state_number (cond failed OutOfOrder (cond held Occupied Vacant)) ≡ 0 → held ≡ false
vacant_tests true held h = absurd (omega arith)
vacant_tests false true h = absurd (omega arith)
vacant_tests false false h = refl

pub vacant_holds_none : (cell : Cell) → state_number (state_of cell) ≡ 0 → cell.held ≡ 0
vacant_holds_none cell at_0 =
    omega (arith, ltb-false 0 cell.held (vacant_tests cell.failed (ltb 0 cell.held) at_0))

module _ (mark : ℕ → ℕ) (cells : List Cell) (s : ℕ) (sized : length cells ≡ 24) (in_use : legal_section s ≡ true)
    (seen : Seen) (agrees : Agrees mark (cell_of cells s) seen) where
  -- what a call does at one section, by the row that turns it down or none
  record Under (call : TrackCall) (verdict : Option Refusal) : Type 0 where
    length_24 : length (after verdict cells (track_effect mark cells call)) ≡ 24
    agree : Agrees mark (cell_of (after verdict cells (track_effect mark cells call)) s)
        (see s seen call (as_answer verdict (track_result cells call)))

  turned_down : (call : TrackCall) (refusal : Refusal) → Under call (Some refusal)
  turned_down (State t) refusal = record { length_24 = sized; agree = agrees }
  turned_down (Enter t n) refusal = record { length_24 = sized; agree = agrees }
  turned_down (Leave t n) refusal = record { length_24 = sized; agree = agrees }
  turned_down (Fail t) refusal = record { length_24 = sized; agree = agrees }
  turned_down (Mend t) refusal = record { length_24 = sized; agree = agrees }

  -- a call that changes the cell of section t alone
  at_one : (t : ℕ) (change : Cell → Cell) (seen_then : Seen) → not (legal_section t) ≡ false
      → (t ≡ s → Agrees mark (change (cell_of cells s)) seen_then)
      → Agrees mark (cell_of (with_cell cells t (change (cell_of cells t))) s) (cond (eqb t s) seen_then seen)
  at_one t change seen_then passed there =
      rw (one_changed cells t s change sized (not-false (legal_section t) passed) in_use)
      (at_either mark (eqb t s) (cell_of cells s) seen (change (cell_of cells s)) seen_then
      (λ e. there (eqb-true t s e)) agrees)

  still_sized : (t : ℕ) (cell : Cell) → length (with_cell cells t cell) ≡ 24
  still_sized t cell = length-set cells (t - 1) cell ∙ sized

  -- failing and mending change the order and nothing that is held
  order_put : (t : ℕ) (failed : Bool) → not (legal_section t) ≡ false
      → Agrees mark (cell_of (with_cell cells t (with_failed (cell_of cells t) failed)) s)
      (cond (eqb t s) (record { inside = seen.inside; failed = failed }) seen)
  order_put t failed passed =
      at_one t (λ cell. with_failed cell failed) (record { inside = seen.inside; failed = failed }) passed
      (λ same. record { held = agrees.held; order = refl; legal = agrees.legal })

  carried_out : (call : TrackCall) → track_verdict mark cells call ≡ None → Under call None
  carried_out (State t) none = record { length_24 = sized; agree = agrees }
  carried_out (Enter t n) none =
      let passed = none_hold (track_rows mark cells (Enter t n)) none in
      let add : Cell → Cell = λ cell. with_held cell (cell.held + mark n) in
      record {
        length_24 = still_sized t (add (cell_of cells t));
        agree = at_one t add (record { inside = Some n; failed = seen.failed }) passed.0
            (λ same. record {
              held = let empty = vacant_holds_none (cell_of cells t) (eqb-true _ 0 (not-false _ passed.1.1.0)) in
                  omega (arith, rw same at empty);
              order = agrees.order;
              legal = not-false (legal_axles n) passed.1.0;
            });
      }
  carried_out (Leave t n) none =
      let passed = none_hold (track_rows mark cells (Leave t n)) none in
      let marked : (cell_of cells t).held ≡ mark n = eqb-true _ _ (not-false _ passed.1.1.0) in
      let take : Cell → Cell = λ cell. with_held cell (cell.held - mark n) in
      record {
        length_24 = still_sized t (take (cell_of cells t));
        agree = at_one t take (record { inside = None; failed = seen.failed }) passed.0
            (λ same. record { held = omega (arith, rw same at marked); order = agrees.order; legal = refl });
      }
  carried_out (Fail t) none = record {
    length_24 = still_sized t (with_failed (cell_of cells t) true);
    agree = order_put t true (none_hold (track_rows mark cells (Fail t)) none).0;
  }
  carried_out (Mend t) none = record {
    length_24 = still_sized t (with_failed (cell_of cells t) false);
    agree = order_put t false (none_hold (track_rows mark cells (Mend t)) none).0;
  }

  -- the verdict as it falls
  step : (call : TrackCall) → Under call (track_verdict mark cells call)
  step call = by_verdict (track_verdict mark cells call) refl where
    by_verdict : (verdict : Option Refusal) → track_verdict mark cells call ≡ verdict → Under call verdict
    by_verdict None e = carried_out call e
    by_verdict (Some refusal) e = turned_down call refusal

-- over a whole run, cell and onlooker still agree
agrees_after : (mark : ℕ → ℕ) (cells : List Cell) (calls : List TrackCall) (s : ℕ) (seen : Seen) → length cells ≡ 24
    → legal_section s ≡ true → Agrees mark (cell_of cells s) seen
    → Agrees mark (cell_of (run_after mark cells calls) s) (see_all s seen (transcript mark cells calls))
agrees_after mark cells [] s seen sized in_use agrees = agrees
agrees_after mark cells (call ∷ calls) s seen sized in_use agrees =
    let now = step mark cells s sized in_use seen agrees call in
    agrees_after mark (track_after mark cells call) calls s (see s seen call (track_answer mark cells call))
    now.length_24 in_use now.agree

-- what agrees reads alike
reads_alike : (mark : ℕ → ℕ) → Lawful mark → (cell : Cell) (seen : Seen) → Agrees mark cell seen
    → state_of cell ≡ reading seen
reads_alike mark lawful cell seen agrees = by_train seen.inside agrees.held agrees.legal where
  by_train : (inside : Option ℕ) → cell.held ≡ held_by mark inside → legal_train inside ≡ true
      → state_of cell ≡ cond seen.failed OutOfOrder (cond (is_some inside) Occupied Vacant)
  by_train None held legal = rw (agrees.order, held)
  by_train (Some axles) held legal =
      let above : 0 < cell.held = omega (arith, lawful axles legal, held) in
      rw (agrees.order, lt-ltb 0 cell.held above)

new_sized : length new_cells ≡ 24
unfolding new_cells
new_sized = refl

new_at : (s : ℕ) → legal_section s ≡ true → cell_of new_cells s ≡ new_cell
unfolding new_cells
new_at s legal =
    let low = (in_reach s legal).0 in
    let high = (in_reach s legal).1 in
    get_or-replicate 24 (s - 1) new_cell new_cell (omega arith)

one_more : (mark : ℕ → ℕ) (start : List Cell) (calls : List TrackCall) (call : TrackCall)
    → track_after mark (run_after mark start calls) call ≡ run_after mark start (calls ++ call ∷ [])
one_more mark start [] call = refl
one_more mark start (first ∷ calls) call = one_more mark (track_after mark start first) calls call

-- one call more of a run
pub run_on : (mark : ℕ → ℕ) → Lawful mark → (old new : List Cell) (call : TrackCall) → new ≡ track_after mark old call
    → GoesOn mark old call new
run_on mark lawful old new call now calls before =
    let all = calls ++ call ∷ [] in
    let reached : new ≡ run_after mark new_cells all = now ∙ rw before (one_more mark new_cells calls call) in
    record {
      reached = reached;
      reads = λ s legal.
          let start : Agrees mark (cell_of new_cells s) nothing_seen =
          rw (new_at s legal) (record { held = refl; order = refl; legal = refl }) in
          rw reached
          (reads_alike mark lawful _ _ (agrees_after mark new_cells all s nothing_seen new_sized legal start));
    }
