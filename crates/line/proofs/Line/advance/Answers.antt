use Rattle.std.proofs.Common.{refl, ◌∙◌}
use Rattle.rules.specs.declared.detection.TrackCall.{TrackCall}
use Rattle.rules.specs.declared.detection.TrackCall.TheVariants.{Enter}
use Rattle.line.specs.declared.frame.trains.Move.{Move}
use Rattle.line.proofs.Ending.{ends_turned_down, ends_at_track, ends_by_track}
use Rattle.line.proofs.Line.advance.Goals as goal

abbrev told : Move → TrackCall
told move = Enter move.section move.axles

pub returns-in_err-moved : goal.returns-in_err-moved
returns-in_err-moved g c =
    ends_turned_down g.met.L.Lamps.stops g.met.L.Lamps.proceeds g.met.T.Track.marked
    _ c.from_residual.ensures.1 c.in_err-moved.ensures.row

pub returns-in_err-enter : goal.returns-in_err-enter
returns-in_err-enter g c =
    ends_at_track g.met.L.Lamps.stops g.met.L.Lamps.proceeds g.met.T.Track.marked
    told _ _ c.in_ok-moved.ensures.row refl refl
    c.from_residual-in_err-enter.ensures.1 c.in_err-enter.ensures.answer c.in_err-enter.ensures.after

pub returns : goal.returns
returns g c =
    ends_by_track g.met.L.Lamps.stops g.met.L.Lamps.proceeds g.met.T.Track.marked
    told _ _ c.in_ok-moved.ensures.row refl refl
    c.in_ok-enter.ensures.answer (λ is. c.put_train.ensures _ ∙ rw (c.in_ok-enter.ensures.after, is) refl)
