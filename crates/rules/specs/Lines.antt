-- The state of a line with its track: what the calls carried out have made of it.
use Rattle.std.specs.Prelude.{ℕ, zero, suc, ◌+◌, ◌-◌, Bool, false, cond, not, ◌&&◌, ◌||◌, List, [], replicate}
use Rattle.std.specs.Prelude.{is_some, None, Option, ◌==◌, nat_le, slice_index_or}
use Rattle.std.specs.Option.{unwrap_or}
use Rattle.rules.specs.Detection.{cell_of, state_of, state_number}
use Rattle.rules.specs.Stations.{place_from, road_section, other_end}
use Rattle.rules.specs.Table.{within}
use Rattle.rules.specs.declared.detection.Cell.{Cell}
use Rattle.rules.specs.declared.line.Laying.{Laying}
use Rattle.rules.specs.declared.line.Levers.{Levers}
use Rattle.rules.specs.declared.line.PlanEntry.{PlanEntry}
use Rattle.rules.specs.declared.line.Station.{Station}
use Rattle.rules.specs.declared.line.Station.TheVariants.{EndA, EndB}
use Rattle.rules.specs.declared.line.Train.{Train}

pub record Line : Type 0 where
  -- none while the line is bare
  pub laying : Option Laying
  pub plan : List PlanEntry
  -- in the order of putting on
  pub trains : List Train
  pub at_a : Levers
  pub at_b : Levers
  -- for each of 16 blocks, whether a slip is out on it
  pub closed : List Bool
  pub cells : List Cell

-- Both stations receive, starters and homes are normal.
abbrev pub new_levers : Levers
new_levers = record { sends = false; starter = 0; home = 0 }

abbrev pub all_open : List Bool
all_open = replicate 16 false

-- A new line over whatever track it was made from.
abbrev pub new_line : List Cell → Line
new_line cells = record {
  laying = None;
  plan = [];
  trains = [];
  at_a = new_levers;
  at_b = new_levers;
  closed = all_open;
  cells = cells;
}

abbrev pub no_laying : Laying
no_laying = record { number = 0; blocks = 0; roads_a = 0; roads_b = 0; reach = 0 }

abbrev pub bare : Line → Bool
bare line = not (is_some line.laying)

abbrev pub laying_of : Line → Laying
laying_of line = unwrap_or line.laying no_laying

abbrev pub blocks : Line → ℕ
blocks line = (laying_of line).blocks

abbrev pub roads_of : Laying → Station → ℕ
roads_of laying EndA = laying.roads_a
roads_of laying EndB = laying.roads_b

abbrev pub roads : Line → Station → ℕ
roads line station = roads_of (laying_of line) station

abbrev pub levers_at : Line → Station → Levers
levers_at line EndA = line.at_a
levers_at line EndB = line.at_b

abbrev pub sends : Line → Station → Bool
sends line station = (levers_at line station).sends

-- blocks 1 to N and the two stations' roads
abbrev pub in_use : Line → ℕ → Bool
in_use line section =
    within 1 (blocks line) section
    || within 17 (16 + roads line EndA) section
    || within 21 (20 + roads line EndB) section

abbrev pub closed_at : Line → ℕ → Bool
closed_at line section = slice_index_or line.closed (section - 1) false

abbrev pub state_at : Line → ℕ → ℕ
state_at line section = state_number (state_of (cell_of line.cells section))

-- Vacant, and no slip out on it.
abbrev pub clear : Line → ℕ → Bool
clear line section = state_at line section == 0 && not (closed_at line section)

-- On a line of n blocks, the section of a train so many places on from the station that it leaves.
abbrev pub section_of : ℕ → Train → ℕ → ℕ
section_of n train distance =
    cond (distance == 0) (road_section train.from train.road)
    (cond (nat_le distance n) (place_from n train.from distance)
    (road_section (other_end train.from) train.into))

-- a train that stands in a road with rear and front
abbrev pub wholly_in : Train → Bool
wholly_in train = train.front == 0

-- whether one of so many sections, from a distance on, is the one asked for
abbrev pub holds_from : ℕ → Train → ℕ → ℕ → ℕ → Bool
holds_from n train section distance zero = false
holds_from n train section distance (suc more) =
    (section_of n train distance == section) || holds_from n train section (distance + 1) more

-- A train holds every section from its rear to its front, these two included.
abbrev pub holds : ℕ → Train → ℕ → Bool
holds n train section = holds_from n train section train.rear ((train.front + 1) - train.rear)
