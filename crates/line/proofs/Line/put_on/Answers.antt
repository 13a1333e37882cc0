use Rattle.std.proofs.Common.{sym, refl, ◌∙◌}
use Rattle.rules.specs.Stations.{road_section}
use Rattle.rules.specs.declared.detection.TrackCall.{TrackCall}
use Rattle.rules.specs.declared.detection.TrackCall.TheVariants.{Enter}
use Rattle.rules.specs.declared.line.Train.{Train}
use Rattle.line.proofs.Ending.{ends_turned_down, ends_without_room, ends_at_track, ends_by_track}
use Rattle.line.proofs.Line.put_on.Goals as goal

abbrev told : Train → TrackCall
told train = Enter (road_section train.from train.road) train.axles

pub returns-in_err-train : goal.returns-in_err-train
returns-in_err-train g c =
    ends_turned_down g.met.L.Lamps.stops g.met.L.Lamps.proceeds g.met.T.Track.marked
    _ c.from_residual.ensures.1 c.in_err-train.ensures.row

pub returns-then-is_full : goal.returns-then-is_full
returns-then-is_full g c =
    ends_without_room g.met.L.Lamps.stops g.met.L.Lamps.proceeds g.met.T.Track.marked
    _ _ _ c.in_ok-train.ensures.row (rw (sym c.if-is_full.ensures) refl)

pub returns-in_err-enter : goal.returns-in_err-enter
returns-in_err-enter g c =
    ends_at_track g.met.L.Lamps.stops g.met.L.Lamps.proceeds g.met.T.Track.marked
    told _ _ c.in_ok-train.ensures.row (rw (sym c.if-is_full.ensures) refl) refl
    c.from_residual-in_err-enter.ensures.1 (rw c.section_of-section.ensures at c.in_err-enter.ensures.answer)
    (rw c.section_of-section.ensures at c.in_err-enter.ensures.after)

pub returns : goal.returns
returns g c =
    ends_by_track g.met.L.Lamps.stops g.met.L.Lamps.proceeds g.met.T.Track.marked
    told _ _ c.in_ok-train.ensures.row (rw (sym c.if-is_full.ensures) refl) refl
    (rw c.section_of-section.ensures at c.in_ok-enter.ensures.answer)
    (λ is. c.push_train.ensures _ ∙ rw (c.in_ok-enter.ensures.after, c.section_of-section.ensures, is) refl)
