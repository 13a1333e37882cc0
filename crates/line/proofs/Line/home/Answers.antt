use Rattle.std.proofs.Common.{ap}
use Rattle.line.proofs.Ending.{ends_turned_down, ends_carried_out}
use Rattle.line.proofs.Line.home.Goals as goal

pub returns-in_err-road : goal.returns-in_err-road
returns-in_err-road g c =
    ends_turned_down g.met.L.Lamps.stops g.met.L.Lamps.proceeds g.met.T.Track.marked
    _ c.from_residual.ensures.1 c.in_err-road.ensures

pub returns : goal.returns
returns g c =
    ends_carried_out g.met.L.Lamps.stops g.met.L.Lamps.proceeds g.met.T.Track.marked
    _ _ c.in_ok-road.ensures
    (λ is. rw (ap (λ r. r.0) is, ap (λ r. r.1) is) at
    (c.put_lever.ensures (g.T.Track.cells c.args.self.now.track)))
