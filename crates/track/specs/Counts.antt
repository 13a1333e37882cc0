-- What the cells of the axle counter mean.
use Rattle.std.specs.Prelude.{ℕ, Bool, false, List, slice_index_or}
use Rattle.rules.specs.declared.detection.Cell.{Cell}
use Rattle.track.specs.declared.axles.AxleCell.{AxleCell}
use Rattle.track.specs.declared.axles.AxleCell.TheVariants.{Empty, Counting}

abbrev pub counted : AxleCell → ℕ
counted Empty = 0
counted (Counting axles) = axles

-- one section by the two tables, counts and out of order
abbrev pub counter : List AxleCell → List Bool → ℕ → Cell
counter counts failed place =
    record { held = counted (slice_index_or counts place Empty); failed = slice_index_or failed place false }
