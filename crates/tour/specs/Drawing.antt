-- How a section is drawn.
use Rattle.std.specs.Prelude.{ℕ, List, Ok, Err, codes, Result}
use Rattle.rules.specs.declared.detection.SectionState.{SectionState}
use Rattle.rules.specs.declared.detection.SectionState.TheVariants.{Vacant, Occupied, OutOfOrder}
use Rattle.rules.specs.declared.refusal.Refusal.{Refusal}

abbrev pub symbol_of : SectionState → List ℕ
symbol_of Vacant = codes "...."
symbol_of Occupied = codes "####"
symbol_of OutOfOrder = codes "!!!!"

-- a section that the track does not have is left blank
abbrev pub drawing : Result SectionState Refusal → List ℕ
drawing (Ok state) = symbol_of state
drawing (Err refusal) = codes "    "
