-- What the search by number finds lies in the list.
use Rattle.std.proofs.Common.{◌≡◌, ℕ, ◌+◌, ◌<◌, true, false, eqb, List, [], ◌∷◌, length, is_some, unwrap_or, refl}
use Rattle.std.proofs.Common.{inl, inr, arith}
use Rattle.std.proofs.lemmas.Bool.{cases_Bool, both_ways}
use Rattle.rules.specs.Searches.{first_index, search_by}

first_within : {X : Type 0} (number : X → ℕ) (n index : ℕ) (xs : List X)
    → is_some (first_index number n index xs) ≡ true
    → unwrap_or (first_index number n index xs) 0 < index + length xs
first_within number n index [] h = absurd (both_ways false refl h)
first_within number n index (x ∷ xs) h =
    elim (cases_Bool (eqb (number x) n)) [
      | inl e ↦ rw e (omega arith)
      | inr e ↦ rw e (omega (arith, first_within number n (index + 1) xs (rw e at h)))
    ]

pub found_within : {X : Type 0} (number : X → ℕ) (n : ℕ) (xs : List X) → is_some (search_by number n xs) ≡ true
    → unwrap_or (search_by number n xs) 0 < length xs
found_within number n xs h =
    elim (cases_Bool (eqb n 0)) [
      | inl e ↦ absurd (both_ways false refl (rw e at h))
      | inr e ↦ rw e (omega (arith, first_within number n 0 xs (rw e at h)))
    ]
