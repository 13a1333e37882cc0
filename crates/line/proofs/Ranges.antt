-- The numbers of a range that takes its last one in: as a list, and all asked from the last one down.
use Rattle.std.proofs.Common.{◌≡◌, ℕ, zero, suc, ◌+◌, ◌-◌, Bool, true, false, ◌&&◌, [], ◌∷◌, ◌++◌, sym, ap}
use Rattle.std.proofs.Common.{◌∙◌, inl, inr, arith}
use Rattle.std.proofs.Math.Bool.{and_comm, and-true}
use Rattle.std.proofs.iter.runs.Sources.{nat_range_inclusive_steps}
use Rattle.std.proofs.lemmas.Bool.{cases_Bool}
use Rattle.std.proofs.lemmas.Iterator.{YieldsList}
use Rattle.std.proofs.lemmas.List.Folds.{list_all-append}
use Rattle.std.specs.Iterator.{AlwaysYields}
use Rattle.std.specs.List.{list_all, range_with_len}
use Rattle.std.specs.Range.{range_inclusive_len, range_inclusive_start, range_inclusive_end, range_inclusive_exhausted}
use Rattle.std.specs.declared.ops.RangeInclusive.{RangeInclusive}

-- how many numbers are left
abbrev left : RangeInclusive ℕ → ℕ
left s =
    range_inclusive_len (λ x y. y - x) (range_inclusive_start s) (range_inclusive_end s) (range_inclusive_exhausted s)

fresh : (s : RangeInclusive ℕ) (n : ℕ) → left s ≡ suc n → range_inclusive_exhausted s ≡ false
fresh s n some =
    elim (cases_Bool (range_inclusive_exhausted s)) [
      | inl e ↦
          let none : left s ≡ 0 =
          ap (range_inclusive_len (λ x y. y - x) (range_inclusive_start s) (range_inclusive_end s)) e in
          absurd (omega (arith, none))
      | inr e ↦ e
    ]

counts_up : (n a : ℕ) (s : RangeInclusive ℕ) → left s ≡ n
    → (range_inclusive_exhausted s ≡ false → range_inclusive_start s ≡ a)
    → AlwaysYields nat_range_inclusive_steps (λ x. x) s (range_with_len a n)
counts_up zero a s none start = λ x t step. absurd (omega (arith, step.1.1))
counts_up (suc n) a s some start = (
  λ t step. absurd (omega (arith, step.1.0)),
  λ x t step.
      let first = start (fresh s n some) in (
        step.1.0 ∙ first,
        counts_up n (a + 1) t (omega (arith, step.1.1)) (λ on. step.1.2 on ∙ ap (λ k. k + 1) first),
      ),
)

pub YieldsList-from_inclusive : {s : RangeInclusive ℕ} (a b n : ℕ) → range_inclusive_start s ≡ a
    → range_inclusive_end s ≡ b → range_inclusive_exhausted s ≡ false → (b + 1) - a ≡ n
    → YieldsList nat_range_inclusive_steps (λ x. x) s (range_with_len a n)
YieldsList-from_inclusive {s = s} a b n start end none_gone many =
    let all : left s ≡ n =
    omega (
      arith,
      start,
      end,
      ap (range_inclusive_len (λ x y. y - x) (range_inclusive_start s) (range_inclusive_end s)) none_gone,
    ) in
    record { runs = counts_up n a s all (λ _. start) }

range_with_len-more : (a n j : ℕ) → a + n ≡ j → range_with_len a (suc n) ≡ range_with_len a n ++ j ∷ []
range_with_len-more a zero j e = let same : a ≡ j = omega arith in ap (λ k. k ∷ []) same
range_with_len-more a (suc n) j e = ap (λ ks. a ∷ ks) (range_with_len-more (a + 1) n j (omega arith))

-- a test of all the numbers from 1 on, asked from the last one down
pub all_down : (test all : ℕ → Bool) → all 0 ≡ true → ((n : ℕ) → all (suc n) ≡ (test (suc n) && all n)) → (n : ℕ)
    → list_all test (range_with_len 1 n) ≡ all n
all_down test all none more zero = sym none
all_down test all none more (suc n) =
    ap (list_all test) (range_with_len-more 1 n (suc n) (omega arith))
    ∙ list_all-append test (range_with_len 1 n) (suc n ∷ [])
    ∙ ap (λ before. before && (test (suc n) && true)) (all_down test all none more n)
    ∙ and_comm (all n) (test (suc n) && true)
    ∙ ap (λ last. last && all n) (and-true (test (suc n)))
    ∙ sym (more n)
