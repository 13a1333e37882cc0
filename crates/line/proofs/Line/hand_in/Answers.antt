use Rattle.std.proofs.Common.{refl}
use Rattle.line.proofs.Ending.{ends_at_check, ends_carried_out}
use Rattle.line.proofs.Line.hand_in.Goals as goal

pub returns-in-Err : goal.returns-in-Err
returns-in-Err g c = record {
  works = ends_at_check g.met.L.Lamps.stops g.met.L.Lamps.proceeds g.met.T.Track.marked
      _ (rw (c.line.ensures, c.block.ensures) at c.in-Err.ensures);
  back = refl;
}

pub returns-in-Ok : goal.returns-in-Ok
returns-in-Ok g c = record {
  works = ends_carried_out g.met.L.Lamps.stops g.met.L.Lamps.proceeds g.met.T.Track.marked
      _ _ (rw (c.line.ensures, c.block.ensures) at c.in-Ok.ensures)
      (λ is. rw is at (c.put_closed.ensures (g.T.Track.cells c.args.self.now.track)));
  back = tt;
}
