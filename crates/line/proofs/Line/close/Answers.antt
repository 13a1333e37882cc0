use Rattle.line.proofs.Ending.{ends_turned_down, ends_carried_out}
use Rattle.line.proofs.Exits.{passed}
use Rattle.line.proofs.Line.close.Goals as goal

pub returns-in_err-block : goal.returns-in_err-block
returns-in_err-block g c =
    ends_turned_down g.met.L.Lamps.stops g.met.L.Lamps.proceeds g.met.T.Track.marked
    _ c.from_residual.ensures.1 c.in_err-block.ensures

pub returns : goal.returns
returns g c =
    rw (c.new-slip.ensures, c.numbers.ensures, (passed _ _ _ c.in_ok-block.ensures).1)
    (ends_carried_out g.met.L.Lamps.stops g.met.L.Lamps.proceeds g.met.T.Track.marked
    _ _ c.in_ok-block.ensures (λ is. rw is at (c.put_closed.ensures (g.T.Track.cells c.args.self.now.track))))
