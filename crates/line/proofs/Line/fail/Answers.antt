use Rattle.std.proofs.Common.{true}
use Rattle.line.proofs.Passing.{order_stopped, order_passed_on}
use Rattle.line.proofs.Line.fail.Goals as goal

pub returns-in_err-section : goal.returns-in_err-section
returns-in_err-section g c =
    order_stopped g.met.L.Lamps.stops g.met.L.Lamps.proceeds g.met.T.Track.marked
    c.args.self.now c.args.section true c.from_residual.ensures.1 c.in_err-section.ensures

pub returns : goal.returns
returns g c =
    order_passed_on g.met.L.Lamps.stops g.met.L.Lamps.proceeds g.met.T.Track.marked
    c.args.self.now c.args.section true c.in_ok-section.ensures c.in_ok-section.section.legal c.fail.ensures
