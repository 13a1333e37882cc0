-- Where the entries of so many blocks begin in the plan, which begins with the blocks from A towards B.
use Rattle.std.specs.Prelude.{ℕ, ◌+◌, ◌-◌}
use Rattle.rules.specs.declared.line.Station.{Station}
use Rattle.rules.specs.declared.line.Station.TheVariants.{EndA, EndB}

-- on a line of n blocks, of c blocks from a distance on
abbrev pub part_start : ℕ → Station → ℕ → ℕ → ℕ
part_start n EndA distance c = distance - 1
part_start n EndB distance c = ((n + 1) - distance) - c
