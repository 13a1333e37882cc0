-- How one row after another decides a call.
use Rattle.std.proofs.Common.{◌≡◌, ℕ, Bool, true, false, List, [], ◌∷◌, is_some, Some, None, Option, refl, arith}
use Rattle.rules.specs.Table.{Row, topmost, after}
use Rattle.rules.specs.declared.refusal.Refusal.{Refusal}

-- where the verdict is none, each row in turn does not hold
abbrev pub NoneHold : List Row → Type 0
NoneHold [] = Unit {0}
NoneHold (row ∷ rows) = (row.1 ≡ false) × NoneHold rows

first_passed : (refusal : Refusal) (holds : Bool) (rows : List Row)
    → topmost ((refusal, holds) ∷ rows) ≡ None → (holds ≡ false) × (topmost rows ≡ None)
first_passed refusal true rows h = let z : ◌≡◌ {A = ℕ} 0 1 = cc in absurd (omega arith)
first_passed refusal false rows h = (refl, h)

pub none_hold : (rows : List Row) → topmost rows ≡ None → NoneHold rows
none_hold [] h = tt
none_hold (row ∷ rows) h =
    let first = first_passed row.0 row.1 rows h in
    (first.0, none_hold rows first.1)

-- a verdict that is not none is some row
pub some_row : (met : Option Refusal) → (met ≡ None → ⊥) → is_some met ≡ true
some_row None h = absurd (h refl)
some_row (Some refusal) h = refl

-- a call that changes nothing leaves what was there, turned down or not
pub nothing_altered : {X : Type 0} (verdict : Option Refusal) (old : X) → old ≡ after verdict old old
nothing_altered None old = refl
nothing_altered (Some refusal) old = refl
