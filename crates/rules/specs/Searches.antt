-- The search by number over any list of numbered records.
use Rattle.std.specs.Prelude.{ℕ, ◌+◌, cond, List, [], ◌∷◌, Some, None, Option, ◌==◌}

-- the first index, counted on from a start, whose record bears the number
abbrev pub first_index : {X : Type 0} → (X → ℕ) → ℕ → ℕ → List X → Option ℕ
first_index number n index [] = None
first_index number n index (x ∷ xs) = cond (number x == n) (Some index) (first_index number n (index + 1) xs)

-- The number 0 is answered none before the list is looked at.
abbrev pub search_by : {X : Type 0} → (X → ℕ) → ℕ → List X → Option ℕ
search_by number n xs = cond (n == 0) None (first_index number n 0 xs)
