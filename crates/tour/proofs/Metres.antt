-- The metres of a part of the stretch.
use Rattle.std.proofs.Common.{ℕ, ◌≤◌, List, take, sum}
use Rattle.std.proofs.lemmas.List.Sums.{sum_by-take-le}

pub part_short : (xs : List ℕ) (n : ℕ) → sum (take n xs) ≤ sum xs
part_short xs n = sum_by-take-le (λ (x : ℕ). x) xs n
