-- How a call ends, by the row that its checks and the track found or did not find.
use Rattle.std.proofs.Common.{◌≡◌, ℕ, List, [], ◌∷◌, ◌++◌, is_some, is_err, Some, None, Ok, Err, Option, Result, sym}
use Rattle.std.proofs.Common.{refl, ap, ◌∙◌, inl, inr, arith}
use Rattle.std.proofs.lemmas.Bool.{cases_Bool}
use Rattle.rules.specs.Calls.{Call, rows, verdict, effect}
use Rattle.promises.specs.Promises.{tells}
use Rattle.rules.specs.Detection.{track_verdict, track_after, track_effect}
use Rattle.rules.specs.Lines.{Line}
use Rattle.rules.specs.Signals.{Shows}
use Rattle.rules.specs.Table.{Row, topmost, answer, outcome, after}
use Rattle.rules.specs.declared.detection.Cell.{Cell}
use Rattle.rules.specs.declared.detection.TrackCall.{TrackCall}
use Rattle.rules.specs.declared.refusal.Refusal.{Refusal}
use Rattle.line.specs.Exact.{no_room, told_rows, exact_verdict, exact_after}

pub stopped : {S : Type 0} (v : Option Refusal) (x : S) (refusal : Refusal) → Err refusal ≡ answer v x
    → v ≡ Some refusal
stopped None x refusal h = let z : ◌≡◌ {A = ℕ} 0 1 = cc in absurd (omega arith)
stopped (Some other) x refusal h = cc

pub passed : {S : Type 0} (v : Option Refusal) (x y : S) → Ok y ≡ answer v x → (v ≡ None) × (y ≡ x)
passed None x y h = (refl, cc)
passed (Some other) x y h = let z : ◌≡◌ {A = ℕ} 0 1 = cc in absurd (omega arith)

pub error_where_a_row : {S : Type 0} (v : Option Refusal) (x : S) → is_err (answer v x) ≡ is_some v
error_where_a_row None x = refl
error_where_a_row (Some refusal) x = refl

-- a question turned down, and one answered
pub not_answered : {S R : Type 0} (v : Option Refusal) (x : S) (value : R) (refusal : Refusal)
    → Err refusal ≡ answer v x → Err refusal ≡ answer v value
not_answered v x value refusal h = sym (ap (λ w. answer w value) (stopped v x refusal h))

pub answered : {R : Type 0} (v : Option Refusal) (value : R) → v ≡ None → Ok value ≡ answer v value
answered v value none = sym (ap (λ w. answer w value) none)

-- the row of a list of rows is that of its front, and where its front has none that of the rest
pub row_in_front : (front rest : List Row) (refusal : Refusal) → topmost front ≡ Some refusal
    → topmost (front ++ rest) ≡ Some refusal
row_in_front [] rest refusal met = let z : ◌≡◌ {A = ℕ} 0 1 = cc in absurd (omega arith)
row_in_front (row ∷ front) rest refusal met =
    elim (cases_Bool row.1) [
      | inl e ↦ rw e (rw e at met)
      | inr e ↦ rw e (row_in_front front rest refusal (rw e at met))
    ]

pub row_in_rest : (front rest : List Row) → topmost front ≡ None → topmost (front ++ rest) ≡ topmost rest
row_in_rest [] rest none = refl
row_in_rest (row ∷ front) rest none =
    elim (cases_Bool row.1) [
      | inl e ↦
          let clash : ◌≡◌ {A = Option Refusal} (Some row.0) None = rw e at none in
          let z : ◌≡◌ {A = ℕ} 0 1 = cc in
          absurd (omega arith)
      | inr e ↦ rw e (row_in_rest front rest (rw e at none))
    ]

-- the answer and the line left, by the rows of the rules, of room and of the track
pub record Exactly {R : Type 0} (shows : Shows) (mark : ℕ → ℕ) (old : Line) (call : Call) (value : R)
    (result : Result R Refusal) (new : Line) : Type 0 where
  pub answer : result ≡ answer (exact_verdict shows mark old call) value
  pub after : new ≡ exact_after shows mark old call

module _ {R : Type 0} (shows : Shows) (mark : ℕ → ℕ) (old : Line) (call : Call) (value : R) where
  abbrev v : Option Refusal
  v = exact_verdict shows mark old call

  pub ends_refused : (refusal : Refusal) → v ≡ Some refusal → Exactly shows mark old call value (Err refusal) old
  ends_refused refusal met = record {
    answer = sym (ap (λ w. answer w value) met);
    after = sym (ap (λ w. after w old (effect mark old call)) met);
  }

  ends_done : (new : Line) → v ≡ None → new ≡ effect mark old call → Exactly shows mark old call value (Ok value) new
  ends_done new none changed = record {
    answer = sym (ap (λ w. answer w value) none);
    after = changed ∙ sym (ap (λ w. after w old (effect mark old call)) none);
  }

  -- a check that asked for every row, and found none
  pub carried_out : {S : Type 0} (x y : S) (new : Line) → Ok y ≡ answer v x → (y ≡ x → new ≡ effect mark old call)
      → Exactly shows mark old call value (Ok value) new
  carried_out x y new h changed = let met = passed v x y h in ends_done new met.0 (changed met.1)

  -- a check that asked for the rows of the rules
  pub rules_turn_down : {S : Type 0} (x : S) (refusal : Refusal) → Err refusal ≡ answer (verdict shows old call) x
      → Exactly shows mark old call value (Err refusal) old
  rules_turn_down x refusal h =
      ends_refused refusal (row_in_front (rows shows old call) _ refusal (stopped (verdict shows old call) x refusal h))

  -- and then found no room
  pub no_room_left : (refusal : Refusal) → verdict shows old call ≡ None → topmost (no_room old call) ≡ Some refusal
      → Exactly shows mark old call value (Err refusal) old
  no_room_left refusal none full =
      ends_refused refusal
      (row_in_rest (rows shows old call) _ none ∙ row_in_front (no_room old call) _ refusal full)

  -- and then the track was told
  module _ (told : TrackCall) (none : verdict shows old call ≡ None) (roomy : topmost (no_room old call) ≡ None)
      (says : tells old call ≡ Some told) where
    by_track : v ≡ track_verdict mark old.cells told
    by_track =
        row_in_rest (rows shows old call) (no_room old call ++ told_rows mark old.cells (tells old call)) none
        ∙ row_in_rest (no_room old call) (told_rows mark old.cells (tells old call)) roomy
        ∙ ap (λ t. topmost (told_rows mark old.cells t)) says

    pub track_turns_down : (over : List Cell → Line) (cells : List Cell) (refusal : Refusal) → over old.cells ≡ old
        → Err refusal ≡ outcome (track_verdict mark old.cells told)
        → cells ≡ track_after mark old.cells told → Exactly shows mark old call value (Err refusal) (over cells)
    track_turns_down over cells refusal same h left =
        let met = stopped (track_verdict mark old.cells told) tt refusal h in
        let untouched : over cells ≡ old =
        ap over (left ∙ ap (λ w. after w old.cells (track_effect mark old.cells told)) met) ∙ same in
        rw untouched (ends_refused refusal (by_track ∙ met))

    pub track_takes : (new : Line) → Ok tt ≡ outcome (track_verdict mark old.cells told)
        → new ≡ effect mark old call → Exactly shows mark old call value (Ok value) new
    track_takes new h changed =
        ends_done new (by_track ∙ (passed (track_verdict mark old.cells told) tt tt h).0) changed

-- a call that is passed on to the track, whose answer is the line's
module _ (shows : Shows) (mark : ℕ → ℕ) (old : Line) (call : Call) (told : TrackCall)
    (asked : exact_verdict shows mark old call ≡ track_verdict mark old.cells told) (over : List Cell → Line)
    (same : over old.cells ≡ old) (change : effect mark old call ≡ over (track_after mark old.cells told)) where
  left_so : (met : Option Refusal) → track_verdict mark old.cells told ≡ met
      → over (track_after mark old.cells told) ≡ after met old (effect mark old call)
  left_so None e = sym change
  left_so (Some refusal) e =
      ap (λ w. over (after w old.cells (track_effect mark old.cells told))) e ∙ same

  pub passed_on : (result : Result (Unit {0}) Refusal) (cells : List Cell)
      → result ≡ outcome (track_verdict mark old.cells told) → cells ≡ track_after mark old.cells told
      → Exactly shows mark old call tt result (over cells)
  passed_on result cells h left = record {
    answer = h ∙ sym (ap outcome asked);
    after = ap over left ∙ left_so (track_verdict mark old.cells told) refl
        ∙ sym (ap (λ w. after w old (effect mark old call)) asked);
  }
