use Rattle.rules.proofs.TrackRuns.{run_on}
use Rattle.track.proofs.telling.tell.Goals as goal

pub returns : goal.returns
returns g c =
    let ends = c.pass_on.ensures in
    record {
      answer = ends.answer;
      after = ends.after;
      history = run_on g.T.Track.mark g.met.T.Track.marked _ _ c.args.call ends.after;
    }
