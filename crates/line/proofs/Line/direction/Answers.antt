use Rattle.line.proofs.Ending.{ends_turned_down, ends_carried_out}
use Rattle.line.proofs.Line.direction.Goals as goal

pub returns-in_err-station : goal.returns-in_err-station
returns-in_err-station g c =
    ends_turned_down g.met.L.Lamps.stops g.met.L.Lamps.proceeds g.met.T.Track.marked
    _ c.from_residual.ensures.1 c.in_err-station.ensures

pub returns : goal.returns
returns g c =
    ends_carried_out g.met.L.Lamps.stops g.met.L.Lamps.proceeds g.met.T.Track.marked
    _ _ c.in_ok-station.ensures (λ is. rw is at (c.turn.ensures (g.T.Track.cells c.args.self.now.track)))
