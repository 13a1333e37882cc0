-- How often the trains of a list stand in a section, and what a move changes in that.
use Rattle.std.proofs.Common.{◌≡◌, ℕ, zero, suc, ◌+◌, ◌-◌, ◌<◌, ◌≤◌, true, eqb, refl, ap, ◌∙◌, inl, inr, add-zero}
use Rattle.std.proofs.Common.{arith}
use Rattle.std.proofs.lemmas.Bool.{or_cases}
use Rattle.rules.specs.Lines.{section_of, holds, holds_from}
use Rattle.rules.specs.declared.line.Train.{Train}
use Rattle.promises.specs.Sound.{one_if, times, times_from}

-- a train that holds a section stands in it
stands_from : (n : ℕ) (train : Train) (s d more : ℕ) → holds_from n train s d more ≡ true
    → 1 ≤ times_from n train s d more
stands_from n train s d zero h = let z : ◌≡◌ {A = ℕ} 0 1 = cc in absurd (omega arith)
stands_from n train s d (suc more) h =
    elim (or_cases (eqb (section_of n train d) s) (holds_from n train s (d + 1) more) h) [
      | inl here ↦ rw here (omega arith)
      | inr later ↦ omega (arith, stands_from n train s (d + 1) more later)
    ]

pub stands : (n : ℕ) (train : Train) (s : ℕ) → holds n train s ≡ true → 1 ≤ times n s train
stands n train s h = stands_from n train s train.rear ((train.front + 1) - train.rear) h

-- one section more at the end of a stretch
pub one_further : (n : ℕ) (train : Train) (s d more : ℕ)
    → times_from n train s d (suc more) ≡ times_from n train s d more + one_if (eqb (section_of n train (d + more)) s)
one_further n train s d zero = rw (add-zero d) (omega arith)
one_further n train s d (suc more) =
    let shift : d + 1 + more ≡ d + suc more = omega arith in
    omega (
      arith,
      one_further n train s (d + 1) more
          ∙ ap (λ e. times_from n train s (d + 1) more + one_if (eqb (section_of n train e) s)) shift,
    )

-- two trains whose sections are the same over a stretch
pub same_stretch : (n : ℕ) (a b : Train) (s d more : ℕ)
    → ((e : ℕ) → d ≤ e → e < d + more → section_of n a e ≡ section_of n b e)
    → times_from n a s d more ≡ times_from n b s d more
same_stretch n a b s d zero h = refl
same_stretch n a b s d (suc more) h =
    rw (h d (omega arith) (omega arith))
    (ap (λ t. one_if (eqb (section_of n b d) s) + t)
    (same_stretch n a b s (d + 1) more (λ e low high. h e (omega arith) (omega arith))))
