-- The bytes of the panel, told one after the other.
use Rattle.std.proofs.Common.{◌≡◌, ℕ, zero, suc, ◌+◌, ◌<◌, ◌≤◌, Bool, true, false, List, map, length, get_or}
use Rattle.std.proofs.Common.{subst, refl, ◌∙◌, inl, inr, arith}
use Rattle.std.proofs.lemmas.Bool.{cases_eq}
use Rattle.std.proofs.lemmas.List.FromFn.{length-map-range_with_len, fill_by_all}
use Rattle.std.specs.Array.{IsFromFnResult, IsFromFnResultFrom}
use Rattle.std.specs.Int.{from_bool}
use Rattle.std.specs.List.{range_with_len}
use Rattle.rules.specs.Lines.{Line}
use Rattle.rules.specs.Panels.{panel, panel_byte, flag}
use Rattle.rules.specs.Signals.{Shows}
use denote.Param.Members.{Mut, Called}

-- an array of what a call tells at each index, where the calls alter nothing
module _ {F B : Type 0} (g : Mut F (ℕ × Unit {0}) B) (f : F) (tells : ℕ → B) (n : ℕ)
    (call : (k : ℕ) (told : B) (after : F) → k < n → Called g f (k, tt) told after
    → (told ≡ tells k) × (after ≡ f)) where
  told_at : (left i : ℕ) (array : List B) → i + left ≡ n → IsFromFnResultFrom g f array i left
      → (k : ℕ) (d : B) → i ≤ k → k < n → get_or array k d ≡ tells k
  told_at zero i array all made k d low high = absurd (omega arith)
  told_at (suc left) i array all made k d low high =
      let same = call i made.1 made.0 (omega arith) made.3 in
      elim (cases_eq k i) [
        | inl e ↦ rw e (made.2.1 d ∙ same.0)
        | inr on ↦
            told_at left (i + 1) array (omega arith)
            (subst (λ (q : F). IsFromFnResultFrom g q array (i + 1) left) same.1 made.4) k d (omega arith) high
      ]

  pub told_each : (array : List B) (d : B) → IsFromFnResult g f array n → array ≡ map tells (range_with_len 0 n)
  told_each array d made =
      fill_by_all tells array n d made.long
      (λ k below. told_at n 0 array (omega arith) made.each k d (omega arith) below)

pub panel_long : (shows : Shows) (line : Line) → length (panel shows line) ≡ 66
unfolding panel
panel_long shows line = length-map-range_with_len (panel_byte shows line) 0 66

pub lit_by : (on : Bool) → from_bool on ≡ flag on
lit_by true = refl
lit_by false = refl
