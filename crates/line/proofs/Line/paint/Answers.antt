use Rattle.std.proofs.Common.{ℕ, length, ap, arith, length-take-le}
use Rattle.line.specs.Worlds.{world}
use Rattle.line.proofs.PaintedBytes.{panel_long}
use Rattle.line.proofs.Line.paint.Goals as goal

pub copy_from_slice-requires : goal.copy_from_slice-requires
copy_from_slice-requires g c =
    let line = world g.T.Track.cells c.args.self.now in
    omega (
      arith,
      length-take-le {A = ℕ},
      c.in_ok-check_paint.ensures.long,
      ap (length {A = ℕ}) c.panel.ensures,
      panel_long (g.L.Lamps.shows c.args.self.now.lamps) line,
    )
