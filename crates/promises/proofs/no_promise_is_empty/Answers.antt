use Rattle.std.proofs.Common.{refl}
use Rattle.rules.specs.Detection.{new_cells}
use Rattle.rules.specs.Panels.{panel}
use Rattle.promises.proofs.no_promise_is_empty.Goals as goal

pub returns : goal.returns
unfolding new_cells panel
returns c = record {
  apart = refl;
  one_way = refl;
  locked = refl;
  proceed = refl;
  told = refl;
  room = refl;
  every_row = refl;
  differ = refl;
  foremost = refl;
  gets_in = refl;
  rows = refl;
}
