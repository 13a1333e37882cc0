use Rattle.std.proofs.Common.{refl}
use Rattle.rules.specs.Detection.{new_cells}
use Rattle.rules.specs.Panels.{panel}
use Rattle.promises.proofs.movements_row_by_row.Goals as goal

pub returns : goal.returns
unfolding new_cells panel
returns c = record { yielded = refl; held = refl }
