use Rattle.promises.proofs.Promised.{no_surprise}
use Rattle.promises.proofs.no_surprise.Goals as goal

pub returns : goal.returns
returns c = no_surprise
