use Rattle.promises.proofs.Frame.{lever_frame}
use Rattle.promises.proofs.lever_frame.Goals as goal

pub returns : goal.returns
returns c = lever_frame
