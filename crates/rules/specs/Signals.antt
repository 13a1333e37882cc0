-- What a signal has ahead of it, and what it shows.
use Rattle.std.specs.Prelude.{ℕ, zero, suc, ◌+◌, ◌-◌, Bool, cond, not, ◌&&◌, ◌==◌, nat_le, slice_index_or}
use Rattle.rules.specs.Lines.{Line, blocks, roads, levers_at, sends, clear, laying_of}
use Rattle.rules.specs.Stations.{place_from, road_section, other_end}
use Rattle.rules.specs.Table.{within}
use Rattle.rules.specs.declared.aspect.Aspect.{Aspect}
use Rattle.rules.specs.declared.line.Station.{Station}
use Rattle.rules.specs.declared.line.Station.TheVariants.{EndA, EndB}

-- What any lamps show, by count and metres.
abbrev pub Shows : Type 0
Shows = ℕ → ℕ → Aspect

-- The signals of a station guard the places from the first block to the far station.
abbrev pub has_signal : Line → Station → ℕ → Bool
has_signal line EndA place = within 1 (blocks line + 1) place
has_signal line EndB place = nat_le place (blocks line)

-- how many places on from the station the guarded place is
abbrev pub distance_to : Line → Station → ℕ → ℕ
distance_to line EndA place = place
distance_to line EndB place = (blocks line + 1) - place

-- how many of so many blocks are clear one after the other, from a distance on
abbrev pub clear_run : Line → Station → ℕ → ℕ → ℕ
clear_run line station distance zero = 0
clear_run line station distance (suc n) =
    cond (clear line (place_from (blocks line) station distance)) (1 + clear_run line station (distance + 1) n) 0

abbrev pub run_ahead : Line → Station → ℕ → ℕ
run_ahead line station distance = clear_run line station distance ((blocks line + 1) - distance)

-- the section of the road that the far station's home is reversed for
abbrev pub home_section : Line → Station → ℕ
home_section line station = road_section (other_end station) (levers_at line (other_end station)).home

abbrev pub starter_count : Line → Station → ℕ
starter_count line station =
    cond (sends line station && not ((levers_at line station).starter == 0)
    && nat_le (laying_of line).reach (run_ahead line station 1))
    (run_ahead line station 1) 0

abbrev pub block_count : Line → Station → ℕ → ℕ
block_count line station distance = cond (sends line station) (run_ahead line station distance) 0

abbrev pub home_count : Line → Station → ℕ
home_count line station =
    cond (sends line station && not ((levers_at line (other_end station)).home == 0)
    && clear line (home_section line station))
    1 0

-- the clear sections ahead of the signal at a distance
abbrev pub count_at : Line → Station → ℕ → ℕ
count_at line station distance =
    cond (distance == 1) (starter_count line station)
    (cond (nat_le distance (blocks line)) (block_count line station distance) (home_count line station))

-- the metres of a section in use, from the plan: blocks, then A's roads, then B's
abbrev pub metres_of_entry : Line → ℕ → ℕ
metres_of_entry line index = (slice_index_or line.plan index (record { name = 0; metres = 0 })).metres

abbrev pub road_index : Line → Station → ℕ → ℕ
road_index line EndA road = blocks line + road - 1
road_index line EndB road = blocks line + roads line EndA + road - 1

-- the metres of so many blocks from a distance on
abbrev pub metres_from : Line → Station → ℕ → ℕ → ℕ
metres_from line station distance zero = 0
metres_from line station distance (suc n) =
    metres_of_entry line (place_from (blocks line) station distance - 1) + metres_from line station (distance + 1) n

abbrev pub metres_at : Line → Station → ℕ → ℕ
metres_at line station distance =
    cond (nat_le distance (blocks line)) (metres_from line station distance (count_at line station distance))
    (cond (home_count line station == 0) 0
    (metres_of_entry line (road_index line (other_end station) (levers_at line (other_end station)).home)))

abbrev pub aspect_at : Shows → Line → Station → ℕ → Aspect
aspect_at shows line station distance = shows (count_at line station distance) (metres_at line station distance)
