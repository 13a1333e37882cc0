-- The cells of each kind of track.
use Rattle.std.specs.Prelude.{ℕ, List}
use Rattle.rules.specs.declared.detection.Cell.{Cell}
use Rattle.track.specs.Cells.{cells_by}
use Rattle.track.specs.Counts.{counter}
use Rattle.track.specs.Words.{circuit}
use Rattle.track.specs.declared.axles.AxleCounter.{AxleCounter}
use Rattle.track.specs.declared.circuits.TrackCircuits.{TrackCircuits}

abbrev pub circuit_at : TrackCircuits → ℕ → Cell
circuit_at track = circuit track.held.bits track.out_of_order.bits

abbrev pub circuit_cells : TrackCircuits → List Cell
circuit_cells track = cells_by (circuit_at track)

abbrev pub counter_at : AxleCounter → ℕ → Cell
counter_at track = counter track.counts track.out_of_order

abbrev pub counter_cells : AxleCounter → List Cell
counter_cells track = cells_by (counter_at track)
