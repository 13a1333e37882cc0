-- The bits of a word after a mask was laid on it.
use Rattle.std.proofs.Common.{◌≡◌, ℕ, ◌%◌, ◌^◌, ◌*◌, ◌-◌, ◌<◌, eqb, refl, w32, ◌∙◌, inl, inr, sym, arith}
use Rattle.std.specs.Int.{bit_at}
use Rattle.std.specs.Prelude.{bit_and, bit_or}
use Rattle.std.proofs.lemmas.Nat.{or_lt, and_le_l, one_shl, pow_below}
use Rattle.std.proofs.lemmas.Nat.Bits.{bit_at_set_same, bit_at_set_other, bit_at_clear_same, bit_at_clear_other}
use Rattle.std.proofs.lemmas.Bool.{cond-true, cond-false, eq-eqb, ne_eqb, cases_eq}
use Rattle.track.specs.Words.{Written}

-- the masks of a word of 32 bits: the bit at a place alone, and every other bit
abbrev pub one_bit : ℕ → ℕ
one_bit place = (1 * 2 ^ place) % 4294967296

abbrev pub other_bits : ℕ → ℕ
other_bits place = 4294967295 - one_bit place

-- a bit put at one place, where no other changes
written : (w p b new : ℕ) → bit_at new p ≡ b → ((k : ℕ) → k < 24 → (k ≡ p → ⊥) → bit_at new k ≡ bit_at w k)
    → Written w p b new
written w p b new there elsewhere k h =
    elim (cases_eq k p) [
      | inl e ↦ rw e (there ∙ sym (cond-true (eqb p p) b (bit_at w p) (eq-eqb p p refl)))
      | inr n ↦ elsewhere k h n ∙ sym (cond-false (eqb k p) b (bit_at w k) (ne_eqb k p n))
    ]

pub bit_set : (w p : ℕ) → p < 24 → Written w p 1 (bit_or w (one_bit p))
bit_set w p h =
    written w p 1 (bit_or w (one_bit p)) (bit_at_set_same w32 w p (omega arith))
    (λ k l n. bit_at_set_other w32 w p (omega arith) k n)

pub bit_cleared : (w p : ℕ) → p < 24 → Written w p 0 (bit_and w (other_bits p))
bit_cleared w p h =
    written w p 0 (bit_and w (other_bits p)) (bit_at_clear_same w32 w p (omega arith))
    (λ k l n. bit_at_clear_other w32 w p (omega arith) k (omega arith) n)

-- the word still keeps to 24 bits
pub set_keeps : (w p : ℕ) → w < 16777216 → p < 24 → bit_or w (one_bit p) < 16777216
set_keeps w p kept h = or_lt 24 w (one_bit p) kept (omega (arith, one_shl p 32 (omega arith), pow_below p 24 h))

pub clear_keeps : (w p : ℕ) → w < 16777216 → bit_and w (other_bits p) < 16777216
clear_keeps w p kept = omega (arith, and_le_l w (other_bits p))

-- what there is to know of a word with one bit put
pub ruleset one_bit_put = (bit_set, bit_cleared, set_keeps, clear_keeps)
