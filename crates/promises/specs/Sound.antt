-- What a line, its trains, its levers and its track always keep to together.
use Rattle.std.specs.Prelude.{◌≡◌, ℕ, zero, suc, ◌+◌, ◌-◌, ◌*◌, ◌≤◌, Bool, true, false, cond, ◌&&◌, ◌⊎◌, List, []}
use Rattle.std.specs.Prelude.{length, None, sum_by, ◌==◌, slice_index_or}
use Rattle.std.specs.List.{AllByRecursion}
use Rattle.rules.specs.Calls.{reversed}
use Rattle.rules.specs.Detection.{cell_of, legal_section, legal_axles}
use Rattle.rules.specs.Lines.{Line, all_open, new_levers, bare, blocks, roads, laying_of, levers_at, sends, section_of}
use Rattle.rules.specs.Stations.{other_end}
use Rattle.rules.specs.declared.detection.Cell.{Cell}
use Rattle.rules.specs.declared.line.Levers.{Levers}
use Rattle.rules.specs.declared.line.Station.{Station}
use Rattle.rules.specs.declared.line.Station.TheVariants.{EndA, EndB}
use Rattle.rules.specs.declared.line.Train.{Train}

-- ## How often trains stand in a section, and what they make it hold

abbrev pub one_if : Bool → ℕ
one_if b = cond b 1 0

-- how often the sections from a distance on are the one asked for
abbrev pub times_from : ℕ → Train → ℕ → ℕ → ℕ → ℕ
times_from n train s d zero = 0
times_from n train s d (suc more) = one_if (section_of n train d == s) + times_from n train s (d + 1) more

-- how often a train stands in a section
abbrev pub times : ℕ → ℕ → Train → ℕ
times n s train = times_from n train s train.rear ((train.front + 1) - train.rear)

-- what it makes the section hold
abbrev pub weight : (ℕ → ℕ) → ℕ → ℕ → Train → ℕ
weight mark n s train = times n s train * mark train.axles

-- all trains told
abbrev pub total : ℕ → ℕ → List Train → ℕ
total n s trains = sum_by (times n s) trains

abbrev pub load : (ℕ → ℕ) → ℕ → ℕ → List Train → ℕ
load mark n s trains = sum_by (weight mark n s) trains

-- ## What each train keeps to

-- the limits of a laid line: its blocks, and the roads of each station
pub record Limits (n : ℕ) (roads : Station → ℕ) : Type 0 where
  pub some : 1 ≤ n
  pub most : n ≤ 16
  pub few : (station : Station) → roads station ≤ 4

-- a train on such a line
pub record Fits (n : ℕ) (roads : Station → ℕ) (train : Train) : Type 0 where
  pub axles : legal_axles train.axles ≡ true
  pub behind : train.rear ≤ train.front
  pub within : train.front ≤ n + 1
  pub rear_out : train.rear ≤ n
  pub road_low : 1 ≤ train.road
  pub road_high : train.road ≤ roads train.from
  pub into_low : train.front ≡ n + 1 → 1 ≤ train.into
  pub into_high : train.into ≤ roads (other_end train.from)

-- ## What trains, closings and track keep to

-- At most one train stands in a section, it holds what the trains there weigh, and none stands where a slip is out.
pub record Agree (mark : ℕ → ℕ) (n : ℕ) (trains : List Train) (closed : List Bool) (cells : List Cell) : Type 0 where
  pub sized : length cells ≡ 24
  pub one : (s : ℕ) → legal_section s ≡ true → total n s trains ≤ 1
  pub held : (s : ℕ) → legal_section s ≡ true → (cell_of cells s).held ≡ load mark n s trains
  pub unshut : (s : ℕ) → legal_section s ≡ true → slice_index_or closed (s - 1) false ≡ true → total n s trains ≡ 0

-- ## What a laid line and a bare one keep to

-- a train away from a station left one that sends
abbrev pub Away : Line → Train → Type 0
Away line train = 1 ≤ train.front → sends line train.from ≡ true

-- a starter is reversed only where its station sends, a home only where it receives
pub record LeversRight (roads : ℕ) (levers : Levers) : Type 0 where
  pub starter_high : levers.starter ≤ roads
  pub home_high : levers.home ≤ roads
  pub starter_way : reversed levers.starter ≡ true → levers.sends ≡ true
  pub home_way : reversed levers.home ≡ true → levers.sends ≡ false

pub record Sound (mark : ℕ → ℕ) (line : Line) : Type 0 where
  pub laid : bare line ≡ false
  pub limits : Limits (blocks line) (roads line)
  pub reach_low : 1 ≤ (laying_of line).reach
  pub reach_high : (laying_of line).reach ≤ blocks line
  pub fits : AllByRecursion (Fits (blocks line) (roads line)) line.trains
  pub agree : Agree mark (blocks line) line.trains line.closed line.cells
  pub way : AllByRecursion (Away line) line.trains
  pub levers : (station : Station) → LeversRight (roads line station) (levers_at line station)
  pub one_way : (sends line EndA && sends line EndB) ≡ false

pub record Blank (line : Line) : Type 0 where
  pub none_laid : line.laying ≡ None
  pub no_trains : line.trains ≡ []
  pub all_open : line.closed ≡ all_open
  pub levers_a : line.at_a ≡ new_levers
  pub levers_b : line.at_b ≡ new_levers
  pub sized : length line.cells ≡ 24

abbrev pub Kept : (ℕ → ℕ) → Line → Type 0
Kept mark line = Blank line ⊎ Sound mark line
