-- What always holds of a laid line, and of a bare one.
use Rattle.std.proofs.Common.{◌≡◌, ℕ, zero, suc, ◌+◌, ◌-◌, ◌<◌, ◌≤◌, true, false, not, eqb, sym, refl, ◌∙◌, add-zero}
use Rattle.std.proofs.Common.{arith}
use Rattle.std.proofs.ByRecursion.{All-weaker}
use Rattle.std.proofs.lemmas.Bool.{and_parts, eqb-true, eq-eqb, not-true}
use Rattle.std.specs.List.{AllByRecursion}
use Rattle.rules.specs.Detection.{cell_of, legal_section}
use Rattle.rules.specs.Lines.{Line, blocks, roads, clear}
use Rattle.rules.specs.Lines.{closed_at, state_at, section_of}
use Rattle.rules.specs.TrackRuns.{Lawful}
use Rattle.rules.specs.declared.line.Train.{Train}
use Rattle.promises.specs.Sound.{Fits, Sound, times, times_from, total}
use Rattle.promises.proofs.Totals.{Legal, nothing_held_none_stands}
use Rattle.rules.proofs.TrackRuns.{vacant_holds_none}

-- in a section that is clear no train stands
module _ (mark : ℕ → ℕ) (lawful : Lawful mark) (line : Line) (sound : Sound mark line) where
  pub all_legal : AllByRecursion Legal line.trains
  all_legal =
      All-weaker (Fits (blocks line) (roads line)) Legal (λ train fits. fits.axles) line.trains sound.fits

  pub vacant_empty : (s : ℕ) → legal_section s ≡ true → state_at line s ≡ 0 → total (blocks line) s line.trains ≡ 0
  vacant_empty s legal vacant =
      nothing_held_none_stands mark lawful (blocks line) s line.trains all_legal
      (sym (sound.agree.held s legal) ∙ vacant_holds_none (cell_of line.cells s) vacant)

  pub clear_parts : (s : ℕ) → clear line s ≡ true → (state_at line s ≡ 0) × (closed_at line s ≡ false)
  clear_parts s h =
      let both = and_parts (eqb (state_at line s) 0) (not (closed_at line s)) h in
      (eqb-true _ 0 both.0, not-true (closed_at line s) both.1)

  pub clear_empty : (s : ℕ) → legal_section s ≡ true → clear line s ≡ true → total (blocks line) s line.trains ≡ 0
  clear_empty s legal h = vacant_empty s legal (clear_parts s h).0

-- a train stands in each section between its rear and its front
stands_at : (n : ℕ) (train : Train) (d more k : ℕ) → k < more
    → 1 ≤ times_from n train (section_of n train (d + k)) d more
stands_at n train d zero k h = absurd (omega arith)
stands_at n train d (suc more) zero h = rw (add-zero d, eq-eqb (section_of n train d) _ refl) (omega arith)
stands_at n train d (suc more) (suc k) h =
    let shift : d + 1 + k ≡ d + suc k = omega arith in
    omega (arith, rw shift at (stands_at n train (d + 1) more k (omega arith)))

pub stands_between : (n : ℕ) (train : Train) (e : ℕ) → train.rear ≤ e → e ≤ train.front
    → 1 ≤ times n (section_of n train e) train
stands_between n train e low high =
    let at : train.rear + (e - train.rear) ≡ e = omega arith in
    rw at at (stands_at n train train.rear ((train.front + 1) - train.rear) (e - train.rear) (omega arith))
