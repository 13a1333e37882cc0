-- The cells of the two tracks on the bench, and their marks.
use Rattle.std.specs.Prelude.{◌≡◌, ℕ, List}
use Rattle.rules.specs.Detection.{track_after}
use Rattle.rules.specs.declared.detection.Cell.{Cell}
use Rattle.rules.specs.TrackRuns.{GoesOn}
use Rattle.rules.specs.declared.detection.TrackCall.{TrackCall}
use Rattle.track.specs.Kinds as kinds
use Rattle.tour.specs.declared.bench.Bench.{Bench}

abbrev pub circuit_cells : Bench → List Cell
circuit_cells bench = kinds.circuit_cells bench.circuits

abbrev pub counter_cells : Bench → List Cell
counter_cells bench = kinds.counter_cells bench.counter

-- track circuits keep 1 of a train, the axle counter all its axles
abbrev pub circuit_mark : ℕ → ℕ
circuit_mark axles = 1

abbrev pub counter_mark : ℕ → ℕ
counter_mark axles = axles

-- One call of both: each track is as the rules leave it, and goes on from whatever calls came before.
pub record BothTold (old : Bench) (call : TrackCall) (new : Bench) : Type 0 where
  pub circuits : circuit_cells new ≡ track_after circuit_mark (circuit_cells old) call
  pub counter : counter_cells new ≡ track_after counter_mark (counter_cells old) call
  pub circuits_go_on : GoesOn circuit_mark (circuit_cells old) call (circuit_cells new)
  pub counter_goes_on : GoesOn counter_mark (counter_cells old) call (counter_cells new)
