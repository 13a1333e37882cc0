use Rattle.promises.proofs.SameLamps.{same_levers_same_lamps}
use Rattle.promises.proofs.same_levers_same_lamps.Goals as goal

pub returns : goal.returns
returns c = same_levers_same_lamps
