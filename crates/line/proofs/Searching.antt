-- The search by number is std's search for a place.
use Rattle.std.proofs.Common.{◌≡◌, ℕ, ◌+◌, eqb, List, [], ◌∷◌, refl, ◌∙◌}
use Rattle.std.specs.List.{position, position_from}
use Rattle.std.proofs.lemmas.Iterator.Adapters.{position_from-zero}
use Rattle.rules.specs.Searches.{first_index}

first_from : {X : Type 0} (borne : X → ℕ) (n i : ℕ) (xs : List X)
    → position_from (λ x. eqb (borne x) n) i xs ≡ first_index borne n i xs
first_from borne n i [] = refl
first_from borne n i (x ∷ xs) = rw (first_from borne n (i + 1) xs) refl

pub first_place : {X : Type 0} (borne : X → ℕ) (n : ℕ) (xs : List X)
    → position (λ x. eqb (borne x) n) xs ≡ first_index borne n 0 xs
first_place borne n xs = position_from-zero (λ x. eqb (borne x) n) xs ∙ first_from borne n 0 xs
