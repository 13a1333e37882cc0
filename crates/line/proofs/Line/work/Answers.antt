use Rattle.std.proofs.Common.{refl}
use Rattle.line.specs.Results.{done_or, slip_or, shown_or, named_or, painted_or}
use Rattle.line.proofs.Working.{by_call, by_handing_in, by_question}
use Rattle.line.proofs.Working.{done_said, slip_said, shown_said, named_said, painted_said}
use Rattle.line.proofs.Working.{done_alone, slip_alone, shown_alone, named_alone, painted_alone}
use Rattle.line.proofs.Line.work.Goals as goal

pub returns-in-Lay : goal.returns-in-Lay
returns-in-Lay g c =
    rw (c.in-Lay.is, c.into.ensures)
    (by_call (g.met.L.Lamps.stops _) (g.met.L.Lamps.proceeds _) g.met.T.Track.marked _
    done_or done_said done_alone _ (rw c.as_slice.ensures.value at c.lay.ensures))

pub returns-in-Direction : goal.returns-in-Direction
returns-in-Direction g c =
    rw (c.in-Direction.is, c.into-in-Direction.ensures)
    (by_call (g.met.L.Lamps.stops _) (g.met.L.Lamps.proceeds _) g.met.T.Track.marked _
    done_or done_said done_alone _ c.direction.ensures)

pub returns-in-Starter : goal.returns-in-Starter
returns-in-Starter g c =
    rw (c.in-Starter.is, c.into-in-Starter.ensures)
    (by_call (g.met.L.Lamps.stops _) (g.met.L.Lamps.proceeds _) g.met.T.Track.marked _
    done_or done_said done_alone _ c.starter.ensures)

pub returns-in-Home : goal.returns-in-Home
returns-in-Home g c =
    rw (c.in-Home.is, c.into-in-Home.ensures)
    (by_call (g.met.L.Lamps.stops _) (g.met.L.Lamps.proceeds _) g.met.T.Track.marked _
    done_or done_said done_alone _ c.home.ensures)

pub returns-in-PutOn : goal.returns-in-PutOn
returns-in-PutOn g c =
    rw (c.in-PutOn.is, c.into-in-PutOn.ensures)
    (by_call (g.met.L.Lamps.stops _) (g.met.L.Lamps.proceeds _) g.met.T.Track.marked _
    done_or done_said done_alone _ c.put_on.ensures)

pub returns-in-Withdraw : goal.returns-in-Withdraw
returns-in-Withdraw g c =
    rw (c.in-Withdraw.is, c.into-in-Withdraw.ensures)
    (by_call (g.met.L.Lamps.stops _) (g.met.L.Lamps.proceeds _) g.met.T.Track.marked _
    done_or done_said done_alone _ c.withdraw.ensures)

pub returns-in-Advance : goal.returns-in-Advance
returns-in-Advance g c =
    rw (c.in-Advance.is, c.into-in-Advance.ensures)
    (by_call (g.met.L.Lamps.stops _) (g.met.L.Lamps.proceeds _) g.met.T.Track.marked _
    done_or done_said done_alone _ c.advance.ensures)

pub returns-in-Follow : goal.returns-in-Follow
returns-in-Follow g c =
    rw (c.in-Follow.is, c.into-in-Follow.ensures)
    (by_call (g.met.L.Lamps.stops _) (g.met.L.Lamps.proceeds _) g.met.T.Track.marked _
    done_or done_said done_alone _ c.follow.ensures)

pub returns-in-Fail : goal.returns-in-Fail
returns-in-Fail g c =
    rw (c.in-Fail.is, c.into-in-Fail.ensures)
    (by_call (g.met.L.Lamps.stops _) (g.met.L.Lamps.proceeds _) g.met.T.Track.marked _
    done_or done_said done_alone _ c.fail.ensures)

pub returns-in-Mend : goal.returns-in-Mend
returns-in-Mend g c =
    rw (c.in-Mend.is, c.into-in-Mend.ensures)
    (by_call (g.met.L.Lamps.stops _) (g.met.L.Lamps.proceeds _) g.met.T.Track.marked _
    done_or done_said done_alone _ c.mend.ensures)

pub returns-in-Close : goal.returns-in-Close
returns-in-Close g c =
    rw (c.in-Close.is, c.into-in-Close.ensures)
    (by_call (g.met.L.Lamps.stops _) (g.met.L.Lamps.proceeds _) g.met.T.Track.marked _
    slip_or (λ v. slip_said v _) slip_alone _ c.close.ensures)

pub returns-in-HandIn : goal.returns-in-HandIn
returns-in-HandIn g c =
    rw (c.in-HandIn.is, c.into-in-HandIn.ensures)
    (by_handing_in (g.met.L.Lamps.stops _) (g.met.L.Lamps.proceeds _) g.met.T.Track.marked _
    _ refl _ c.hand_in.ensures.works c.hand_in.ensures.back)

pub returns-in-Signal : goal.returns-in-Signal
returns-in-Signal g c =
    rw (c.in-Signal.is, c.into-in-Signal.ensures)
    (by_question (g.met.L.Lamps.stops _) (g.met.L.Lamps.proceeds _) g.met.T.Track.marked _
    _ shown_or (λ v. shown_said v _) shown_alone _ c.signal.ensures refl)

pub returns-in-SectionNamed : goal.returns-in-SectionNamed
returns-in-SectionNamed g c =
    rw (c.in-SectionNamed.is, c.into-in-SectionNamed.ensures)
    (by_question (g.met.L.Lamps.stops _) (g.met.L.Lamps.proceeds _) g.met.T.Track.marked _
    _ named_or (λ v. named_said v _) named_alone _ c.section_named.ensures refl)

pub returns-in-Paint : goal.returns-in-Paint
returns-in-Paint g c =
    rw (c.in-Paint.is, c.into-in-Paint.ensures)
    (by_question (g.met.L.Lamps.stops _) (g.met.L.Lamps.proceeds _) g.met.T.Track.marked _
    _ painted_or (λ v. painted_said v _) painted_alone _ c.painted.ensures refl)
