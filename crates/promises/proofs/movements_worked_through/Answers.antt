use Rattle.std.proofs.Common.{refl}
use Rattle.rules.specs.Detection.{new_cells}
use Rattle.promises.proofs.movements_worked_through.Goals as goal

pub returns : goal.returns
unfolding new_cells
returns c = refl
