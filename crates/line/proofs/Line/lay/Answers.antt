use Rattle.line.proofs.Ending.{ends_turned_down, ends_carried_out}
use Rattle.line.proofs.Line.lay.Goals as goal

pub returns-in_err-check_lay : goal.returns-in_err-check_lay
returns-in_err-check_lay g c =
    ends_turned_down g.met.L.Lamps.stops g.met.L.Lamps.proceeds g.met.T.Track.marked
    _ c.from_residual.ensures.1 c.in_err-check_lay.ensures.row

pub returns : goal.returns
returns g c =
    ends_carried_out g.met.L.Lamps.stops g.met.L.Lamps.proceeds g.met.T.Track.marked
    _ _ c.in_ok-check_lay.ensures.row (λ _. c.lay.ensures _)
