-- A call of a train that is not there, or of a bare line: the two rows that it meets first.
use Rattle.std.proofs.Common.{◌≡◌, ℕ, Bool, true, false, not, cond, [], ◌∷◌, is_some, Some, None, Ok, Err}
use Rattle.std.proofs.Common.{Option, Result, refl, ap, arith}
use Rattle.std.specs.Result.{IsErrAnd}
use Rattle.std.proofs.lemmas.Result.{err_from_is_err_and}
use Rattle.rules.specs.Calls.{not_laid, no_train_of, train_index}
use Rattle.rules.specs.Lines.{Line, bare}
use Rattle.rules.specs.Table.{topmost, answer}
use Rattle.rules.specs.declared.line.Train.{Train}
use Rattle.rules.specs.declared.refusal.Refusal.{Refusal}
use Rattle.rules.specs.declared.refusal.Refusal.TheVariants.{NotLaid, NoTrain}
use Rattle.line.specs.Moves.{running}
use Rattle.line.proofs.Exits.{not_answered, passed}

abbrev pub rows_met : Bool → Bool → Option Refusal → Option Refusal
rows_met unlaid gone below = cond unlaid (Some NotLaid) (cond gone (Some NoTrain) below)

one_met : {S R : Type 0} (unlaid gone : Bool) (below : Option Refusal) (x : S) (value : R) (refusal : Refusal)
    → Err refusal ≡ answer (rows_met unlaid gone None) x → Err refusal ≡ answer (rows_met unlaid gone below) value
one_met true gone below x value refusal h = not_answered (Some NotLaid) x value refusal h
one_met false true below x value refusal h = not_answered (Some NoTrain) x value refusal h
one_met false false below x value refusal h = let z : ◌≡◌ {A = ℕ} 0 1 = cc in absurd (omega arith)

none_met : (unlaid gone : Bool) → rows_met unlaid gone None ≡ None → (unlaid ≡ false) × (gone ≡ false)
none_met true gone h = let z : ◌≡◌ {A = ℕ} 0 1 = cc in absurd (omega arith)
none_met false true h = let z : ◌≡◌ {A = ℕ} 0 1 = cc in absurd (omega arith)
none_met false false h = (refl, refl)

module _ (line : Line) (number : ℕ) where
  abbrev gone : Bool
  gone = not (is_some (train_index line number))

  -- one of the two answers, whatever stands below, and is handed on
  pub not_running : {R : Type 0} {result : Result R Refusal} {refusal : Refusal} (below : Option Refusal) (value : R)
      → IsErrAnd result (λ e. e ≡ refusal)
      → Err refusal ≡ answer (topmost (not_laid line ∷ no_train_of line number ∷ [])) (running line number)
      → result ≡ answer (rows_met (bare line) gone below) value
  not_running {result = result} {refusal = refusal} below value handed h =
      let p = err_from_is_err_and result handed in
      rw (p.1, p.2) (one_met (bare line) gone below (running line number) value refusal h)

  -- or neither holds, and the train is there
  pub is_running : (index : ℕ) (train : Train)
      → Ok (index, train) ≡ answer (topmost (not_laid line ∷ no_train_of line number ∷ [])) (running line number)
      → (bare line ≡ false) × (gone ≡ false) × (index ≡ (running line number).0) × (train ≡ (running line number).1)
  is_running index train h =
      let met = passed (rows_met (bare line) gone None) (running line number) (index, train) h in
      let none = none_met (bare line) gone met.0 in
      (none.0, none.1, ap (λ found. found.0) met.1, ap (λ found. found.1) met.1)
