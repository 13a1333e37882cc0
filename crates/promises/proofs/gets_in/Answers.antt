use Rattle.promises.proofs.GetsIn.{gets_in}
use Rattle.promises.proofs.gets_in.Goals as goal

pub returns : goal.returns
returns c = gets_in
