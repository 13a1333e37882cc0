use Rattle.promises.proofs.Promised.{fronts_come_into_clear}
use Rattle.promises.proofs.fronts_come_into_clear.Goals as goal

pub returns : goal.returns
returns c = fronts_come_into_clear
