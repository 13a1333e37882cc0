use Rattle.promises.proofs.Promised.{apart}
use Rattle.promises.proofs.apart.Goals as goal

pub returns : goal.returns
returns c = apart
