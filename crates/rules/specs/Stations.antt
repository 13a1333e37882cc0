-- The two ends of the line, and where its places and sections are.
use Rattle.std.specs.Prelude.{ℕ, ◌+◌, ◌-◌, cond, Some, None, Option, ◌==◌}
use Rattle.rules.specs.declared.line.Station.{Station}
use Rattle.rules.specs.declared.line.Station.TheVariants.{EndA, EndB}

abbrev pub station_number : Station → ℕ
station_number EndA = 1
station_number EndB = 2

abbrev pub other_end : Station → Station
other_end EndA = EndB
other_end EndB = EndA

-- the station of a number, if there is one
abbrev pub station_of : ℕ → Option Station
station_of n = cond (n == 1) (Some EndA) (cond (n == 2) (Some EndB) None)

-- The place that is so many places on from a station, on a line of n blocks: A is place 0, B place n + 1.
abbrev pub place_from : ℕ → Station → ℕ → ℕ
place_from n EndA distance = distance
place_from n EndB distance = (n + 1) - distance

-- the section of a road
abbrev pub road_section : Station → ℕ → ℕ
road_section EndA road = 16 + road
road_section EndB road = 20 + road
