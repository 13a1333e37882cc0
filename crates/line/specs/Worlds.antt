-- The line of the rules that a line of the code stands for.
use Rattle.std.specs.Prelude.{List}
use Rattle.rules.specs.Lines.{Line}
use Rattle.rules.specs.declared.detection.Cell.{Cell}
use Rattle.line.specs.Frames.{with_cells}
use Rattle.line.specs.declared.Line.{Line as Built}

abbrev pub world : {X Y : Type 0} → (X → List Cell) → Built X Y → Line
world cells line = with_cells (cells line.track) line.frame
