-- One entry of one table written changes one cell of the axle counter.
use Rattle.std.proofs.Common.{◌≡◌, ℕ, ◌<◌, Bool, false, List, length, set, ap, ◌∙◌}
use Rattle.std.proofs.lemmas.List.{get_or-set_same, get_or-set_other}
use Rattle.rules.specs.Detection.{with_held, with_failed}
use Rattle.rules.specs.declared.detection.Cell.{Cell}
use Rattle.track.specs.Cells.{cells_by, set_held, set_failed}
use Rattle.track.specs.Counts.{counted, counter}
use Rattle.track.specs.declared.axles.AxleCell.{AxleCell}
use Rattle.track.specs.declared.axles.AxleCell.TheVariants.{Empty}
use Rattle.track.specs.Places.{changed_at, read_at}

module _ (counts : List AxleCell) (failed : List Bool) (p : ℕ) (l : p < 24) where
  abbrev before : ℕ → Cell
  before = counter counts failed

  pub count_written : (cell : AxleCell) (n : ℕ) → counted cell ≡ n → p < length counts
      → cells_by (counter (set counts p cell) failed) ≡ set_held (cells_by before) p n
  count_written cell n counts_n within =
      changed_at before (counter (set counts p cell) failed) p (λ old. with_held old n) l
      (ap (with_held (before p)) (ap counted (get_or-set_same counts p cell Empty within) ∙ counts_n))
      (λ k h n. ap (λ x. with_held (before k) (counted x)) (get_or-set_other counts p k cell Empty n))

  pub failed_written : (b : Bool) → p < length failed
      → cells_by (counter counts (set failed p b)) ≡ set_failed (cells_by before) p b
  failed_written b within =
      changed_at before (counter counts (set failed p b)) p (λ old. with_failed old b) l
      (ap (with_failed (before p)) (get_or-set_same failed p b false within))
      (λ k h n. ap (with_failed (before k)) (get_or-set_other failed p k b false n))

-- what there is to know of one section counted or changed
pub ruleset one_count = (read_at, count_written, failed_written)
