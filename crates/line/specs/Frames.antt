-- The line of the rules that a frame stands for, with the cells of its track.
use Rattle.std.specs.Prelude.{◌≡◌, List, [], vec_items}
use Rattle.rules.specs.Lines.{Line}
use Rattle.rules.specs.Signals.{Shows}
use Rattle.rules.specs.declared.aspect.Aspect.TheVariants.{Stop}
use Rattle.rules.specs.declared.detection.Cell.{Cell}
use Rattle.rules.specs.declared.line.Train.{Train}
use Rattle.line.specs.declared.frame.Frame.{Frame}

abbrev pub with_cells : List Cell → Frame → Line
with_cells cells frame = record {
  laying = frame.laying;
  plan = vec_items frame.plan;
  trains = vec_items frame.trains;
  at_a = frame.at_a;
  at_b = frame.at_b;
  closed = frame.closed;
  cells = cells;
}

-- the line without its track
abbrev pub trackless : Frame → Line
trackless frame = with_cells [] frame

-- lamps for what asks no signal
abbrev pub nothing_shown : Shows
nothing_shown r m = Stop

-- A frame becomes another as a line becomes another, whatever the cells are.
abbrev pub Becomes : (Line → Line) → Frame → Frame → Type 0
Becomes change old new = (cells : List Cell) → with_cells cells new ≡ change (with_cells cells old)

-- the line with other trains
abbrev pub trains_put : List Train → Line → Line
trains_put trains line = record {
  laying = line.laying;
  plan = line.plan;
  trains = trains;
  at_a = line.at_a;
  at_b = line.at_b;
  closed = line.closed;
  cells = line.cells;
}
