use Rattle.std.proofs.Common.{refl, ◌∙◌}
use Rattle.rules.specs.declared.detection.TrackCall.{TrackCall}
use Rattle.rules.specs.declared.detection.TrackCall.TheVariants.{Leave}
use Rattle.line.specs.declared.frame.trains.Move.{Move}
use Rattle.line.proofs.Ending.{ends_turned_down, ends_at_track, ends_by_track}
use Rattle.line.proofs.Line.withdraw.Goals as goal

abbrev told : Move → TrackCall
told move = Leave move.section move.axles

pub returns-in_err-gone : goal.returns-in_err-gone
returns-in_err-gone g c =
    ends_turned_down g.met.L.Lamps.stops g.met.L.Lamps.proceeds g.met.T.Track.marked
    _ c.from_residual.ensures.1 c.in_err-gone.ensures.row

pub returns-in_err-leave : goal.returns-in_err-leave
returns-in_err-leave g c =
    ends_at_track g.met.L.Lamps.stops g.met.L.Lamps.proceeds g.met.T.Track.marked
    told _ _ c.in_ok-gone.ensures.row refl refl
    c.from_residual-in_err-leave.ensures.1 c.in_err-leave.ensures.answer c.in_err-leave.ensures.after

pub returns : goal.returns
returns g c =
    ends_by_track g.met.L.Lamps.stops g.met.L.Lamps.proceeds g.met.T.Track.marked
    told _ _ c.in_ok-gone.ensures.row refl refl
    c.in_ok-leave.ensures.answer (λ is. c.remove_train.ensures _ ∙ rw (c.in_ok-leave.ensures.after, is) refl)
