use Rattle.std.proofs.Common.{rules}
use Rattle.rules.specs.Panels.{panel, panel_byte}
use Rattle.line.specs.Worlds.{world}
use Rattle.line.proofs.PaintedBytes.{told_each}
use Rattle.line.proofs.Line.panel.Goals as goal

pub returns : goal.returns
unfolding panel
returns g c =
    let line = world g.T.Track.cells c.args.self.now in
    told_each _ _ (panel_byte (g.L.Lamps.shows c.args.self.now.lamps) line) 66
    (λ k told after below called. search rules) _ 0 c.from_fn.ensures.items
