use Rattle.line.specs.Frames.{trackless}
use Rattle.line.proofs.Running.{not_running}
use Rattle.line.proofs.frame.Frame.check_follow.Goals as goal

pub returns-in_err-index-clause-row : goal.returns-in_err-index-clause-row
returns-in_err-index-clause-row c =
    not_running (trackless c.args.self.now) c.args.number _ _ c.from_residual.ensures.1
    c.in_err-index.ensures.row
