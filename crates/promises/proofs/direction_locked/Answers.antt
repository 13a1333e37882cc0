use Rattle.promises.proofs.Promised.{direction_locked}
use Rattle.promises.proofs.direction_locked.Goals as goal

pub returns : goal.returns
returns c = direction_locked
