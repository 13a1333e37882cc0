use Rattle.std.proofs.Common.{◌≤◌, sym, ◌∙◌, arith}
use Rattle.rules.specs.Lines.{blocks}
use Rattle.line.specs.Worlds.{world}
use Rattle.line.proofs.Metres.{metres_before_block}
use Rattle.line.proofs.Clear.{count_short}
use Rattle.line.proofs.Line.metres_at.Goals as goal

pub block_metres-requires : goal.block_metres-requires
block_metres-requires g c =
    let line = world g.T.Track.cells c.args.self.now in
    let short : c.args.at.distance ≤ blocks line = omega (arith, c.blocks-2.ensures.is) in
    omega (arith, short, c.count_at.ensures, count_short line c.args.at.station c.args.at.distance short)

pub returns-then-at-blocks : goal.returns-then-at-blocks
returns-then-at-blocks g c =
    let line = world g.T.Track.cells c.args.self.now in
    let short : c.args.at.distance ≤ blocks line = omega (arith, c.blocks-2.ensures.is) in
    c.block_metres.ensures
    ∙ rw c.count_at.ensures (sym (metres_before_block line c.args.at.station c.args.at.distance short))
