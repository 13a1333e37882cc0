-- Only the rows of a call's own list answer, and then nothing alters.
use Rattle.std.proofs.Common.{◌≡◌, ℕ, Bool, true, false, List, [], ◌∷◌, map, Some, None, Option, sym, refl, ap, arith}
use Rattle.std.proofs.lemmas.Bool.{eq-eqb, or_left, or_right}
use Rattle.rules.specs.Calls.{Call, lay, direction, starter, home, put_on, withdraw, advance, follow, fail, mend}
use Rattle.rules.specs.Calls.{close, hand_in, ask_signal, ask_name, paint, rows, verdict, effect}
use Rattle.rules.specs.LineRuns.{Answer, turned_down, result, unless}
use Rattle.rules.specs.Lines.{Line}
use Rattle.promises.specs.Promises.{listed, RowsAsListed, TurnedDownUntouched}
use Rattle.rules.specs.Signals.{Shows}
use Rattle.rules.specs.Table.{Row, row_number, topmost, after}
use Rattle.rules.specs.declared.refusal.Refusal.{Refusal}

pub rows_as_listed : RowsAsListed
rows_as_listed shows line (lay laying plan) = refl
rows_as_listed shows line (direction n send) = refl
rows_as_listed shows line (starter n road) = refl
rows_as_listed shows line (home n road) = refl
rows_as_listed shows line (put_on number axles n road) = refl
rows_as_listed shows line (withdraw number) = refl
rows_as_listed shows line (advance number) = refl
rows_as_listed shows line (follow number) = refl
rows_as_listed shows line (fail s) = refl
rows_as_listed shows line (mend s) = refl
rows_as_listed shows line (close block) = refl
rows_as_listed shows line (hand_in number block) = refl
rows_as_listed shows line (ask_signal n place) = refl
rows_as_listed shows line (ask_name name) = refl
rows_as_listed shows line (paint bytes) = refl

-- the topmost row is one of the list
topmost_listed : (table : List Row) (refusal : Refusal) → topmost table ≡ Some refusal
    → listed (row_number refusal) (map (λ row. row_number row.0) table) ≡ true
topmost_listed [] refusal h = let z : ◌≡◌ {A = ℕ} 0 1 = cc in absurd (omega arith)
topmost_listed (row ∷ table) refusal h = by_test row.1 (λ e. topmost_listed table refusal e) h where
  by_test : (holds : Bool)
      → (topmost table ≡ Some refusal → listed (row_number refusal) (map (λ r. row_number r.0) table) ≡ true)
      → topmost ((row.0, holds) ∷ table) ≡ Some refusal
      → listed (row_number refusal) (map (λ r. row_number r.0) (row ∷ table)) ≡ true
  by_test true later e =
      let same : row.0 ≡ refusal = cc in
      or_left _ _ (eq-eqb _ _ (ap row_number (sym same)))
  by_test false later e = or_right _ _ (later e)

-- an answer that turns down comes from that row
row_of_answer : (met : Option Refusal) (answer : Answer) (refusal : Refusal)
    → ((other : Refusal) → answer ≡ turned_down other → ⊥)
    → unless met answer ≡ turned_down refusal → met ≡ Some refusal
row_of_answer None answer refusal never h = absurd (never refusal h)
row_of_answer (Some other) answer refusal never h = cc

-- no call that is carried out answers so
never_turned_down : (shows : Shows) (line : Line) (c : Call) (other : Refusal)
    → result shows line c ≡ turned_down other → ⊥
never_turned_down shows line (lay laying plan) other h = let z : ◌≡◌ {A = ℕ} 0 1 = cc in omega arith
never_turned_down shows line (direction n send) other h = let z : ◌≡◌ {A = ℕ} 0 1 = cc in omega arith
never_turned_down shows line (starter n road) other h = let z : ◌≡◌ {A = ℕ} 0 1 = cc in omega arith
never_turned_down shows line (home n road) other h = let z : ◌≡◌ {A = ℕ} 0 1 = cc in omega arith
never_turned_down shows line (put_on number axles n road) other h = let z : ◌≡◌ {A = ℕ} 0 1 = cc in omega arith
never_turned_down shows line (withdraw number) other h = let z : ◌≡◌ {A = ℕ} 0 1 = cc in omega arith
never_turned_down shows line (advance number) other h = let z : ◌≡◌ {A = ℕ} 0 1 = cc in omega arith
never_turned_down shows line (follow number) other h = let z : ◌≡◌ {A = ℕ} 0 1 = cc in omega arith
never_turned_down shows line (fail s) other h = let z : ◌≡◌ {A = ℕ} 0 1 = cc in omega arith
never_turned_down shows line (mend s) other h = let z : ◌≡◌ {A = ℕ} 0 1 = cc in omega arith
never_turned_down shows line (close block) other h = let z : ◌≡◌ {A = ℕ} 0 1 = cc in omega arith
never_turned_down shows line (hand_in number block) other h = let z : ◌≡◌ {A = ℕ} 0 1 = cc in omega arith
never_turned_down shows line (ask_signal n place) other h = let z : ◌≡◌ {A = ℕ} 0 1 = cc in omega arith
never_turned_down shows line (ask_name name) other h = let z : ◌≡◌ {A = ℕ} 0 1 = cc in omega arith
never_turned_down shows line (paint bytes) other h = let z : ◌≡◌ {A = ℕ} 0 1 = cc in omega arith

pub turned_down_untouched : TurnedDownUntouched
turned_down_untouched shows mark line c refusal h =
    let met : verdict shows line c ≡ Some refusal =
    row_of_answer (verdict shows line c) (result shows line c) refusal (never_turned_down shows line c) h in (
      rw (sym (rows_as_listed shows line c)) (topmost_listed (rows shows line c) refusal met),
      ap (λ v. after v line (effect mark line c)) met,
    )
