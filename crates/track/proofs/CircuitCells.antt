-- One bit of one word written changes one cell of the track circuits.
use Rattle.std.proofs.Common.{◌≡◌, ℕ, ◌<◌, Bool, zero, suc, arith, true, false, cond, eqb, refl, ap, ◌∙◌}
use Rattle.std.specs.Int.{bit_at}
use Rattle.std.proofs.lemmas.Nat.Bits.{bit_at-lt}
use Rattle.std.proofs.lemmas.Bool.{cond-true, cond-false, eq-eqb, ne_eqb}
use Rattle.rules.specs.Detection.{with_held, with_failed}
use Rattle.track.specs.Cells.{cells_by, set_held, set_failed}
use Rattle.track.specs.Words.{circuit, Written}
use Rattle.track.specs.Places.{changed_at, read_at}

module _ (old p b new : ℕ) (written : Written old p b new) where
  there : p < 24 → bit_at new p ≡ b
  there l = written p l ∙ cond-true (eqb p p) b (bit_at old p) (eq-eqb p p refl)

  elsewhere : (k : ℕ) → k < 24 → (k ≡ p → ⊥) → bit_at new k ≡ bit_at old k
  elsewhere k l n = written k l ∙ cond-false (eqb k p) b (bit_at old k) (ne_eqb k p n)

pub held_written : (held failed p b new : ℕ) → p < 24 → Written held p b new
    → cells_by (circuit new failed) ≡ set_held (cells_by (circuit held failed)) p b
held_written held failed p b new l written =
    changed_at (circuit held failed) (circuit new failed) p (λ cell. with_held cell b) l
    (ap (with_held (circuit held failed p)) (there held p b new written l))
    (λ k h n. ap (with_held (circuit held failed k)) (elsewhere held p b new written k h n))

one_is_set : (set : Bool) → eqb (cond set 1 0) 1 ≡ set
one_is_set true = refl
one_is_set false = refl

pub failed_written : (held failed p new : ℕ) (set : Bool) → p < 24 → Written failed p (cond set 1 0) new
    → cells_by (circuit held new) ≡ set_failed (cells_by (circuit held failed)) p set
failed_written held failed p new set l written =
    changed_at (circuit held failed) (circuit held new) p (λ cell. with_failed cell set) l
    (ap (λ b. with_failed (circuit held failed p) (eqb b 1)) (there failed p (cond set 1 0) new written l)
    ∙ ap (with_failed (circuit held failed p)) (one_is_set set))
    (λ k h n.
    ap (λ b. with_failed (circuit held failed k) (eqb b 1)) (elsewhere failed p (cond set 1 0) new written k h n))

-- a bit that is set or not is 1 or 0
pub bit_counted : (w p : ℕ) → cond (eqb (bit_at w p) 1) 1 0 ≡ bit_at w p
bit_counted w p = by_bit (bit_at w p) (bit_at-lt w p) where
  by_bit : (b : ℕ) → b < 2 → cond (eqb b 1) 1 0 ≡ b
  by_bit zero l = refl
  by_bit (suc zero) l = refl
  by_bit (suc (suc b)) l = absurd (omega arith)

-- what there is to know of one circuit read or changed
pub ruleset one_circuit = (read_at, bit_counted, held_written, failed_written)
