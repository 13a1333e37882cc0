-- Every call and question of a line: the rows that it can meet, what it changes, and what it answers.
use Rattle.std.specs.Prelude.{ℕ, zero, suc, ◌+◌, ◌-◌, Bool, true, false, cond, not, ◌&&◌, ◌||◌, List, [], ◌∷◌, ◌++◌}
use Rattle.std.specs.Prelude.{length, take, drop, is_some, Some, None, Option, ◌==◌, nat_lt, slice_index_or}
use Rattle.std.specs.Prelude.{slice_set, Result}
use Rattle.std.specs.List.{list_all, list_any}
use Rattle.std.specs.Option.{unwrap_or}
use Rattle.rules.specs.Aspects.{aspect_number}
use Rattle.rules.specs.Detection.{legal_axles, track_after, cell_of}
use Rattle.rules.specs.Lines.{Line, bare, blocks, roads, roads_of, levers_at, sends, in_use, closed_at, state_at}
use Rattle.rules.specs.Lines.{clear, laying_of, section_of, wholly_in}
use Rattle.rules.specs.Searches.{search_by}
use Rattle.rules.specs.Signals.{Shows, has_signal, aspect_at}
use Rattle.rules.specs.Stations.{station_of, station_number, other_end, road_section}
use Rattle.rules.specs.Table.{Row, topmost, answer, after, within}
use Rattle.rules.specs.declared.detection.Cell.{Cell}
use Rattle.rules.specs.declared.detection.TrackCall.{TrackCall}
use Rattle.rules.specs.declared.detection.TrackCall.TheVariants.{Enter, Leave, Fail, Mend}
use Rattle.rules.specs.declared.line.Laying.{Laying}
use Rattle.rules.specs.declared.line.Levers.{Levers}
use Rattle.rules.specs.declared.line.PlanEntry.{PlanEntry}
use Rattle.rules.specs.declared.line.Station.{Station}
use Rattle.rules.specs.declared.line.Station.TheVariants.{EndA, EndB}
use Rattle.rules.specs.declared.line.Train.{Train}
use Rattle.rules.specs.declared.refusal.Refusal.{Refusal}
use Rattle.rules.specs.declared.refusal.Refusal.TheVariants.{NotLaid, Laid, BadPlan, NoStation, NoSection, NoRoad}
use Rattle.rules.specs.declared.refusal.Refusal.TheVariants.{BadCard, NumberInUse, NoTrain, ThereAlready, FarEndSends}
use Rattle.rules.specs.declared.refusal.Refusal.TheVariants.{WrongWay, LeverOnLever, LineNotClear, Held, NotClear}
use Rattle.rules.specs.declared.refusal.Refusal.TheVariants.{AtStop, RoadsEnd, NothingBehind, TrainAway, StrangeSlip}
use Rattle.rules.specs.declared.refusal.Refusal.TheVariants.{SoAlready, ShortPanel}

pub data Call : Type 0 where
  -- the numbers, and the plan
  lay : Laying → List PlanEntry → Call
  -- station, and whether to send
  direction : ℕ → Bool → Call
  -- station and road, 0 for normal
  starter : ℕ → ℕ → Call
  home : ℕ → ℕ → Call
  -- number, axles, station, road
  put_on : ℕ → ℕ → ℕ → ℕ → Call
  -- by the train's number
  withdraw : ℕ → Call
  advance : ℕ → Call
  follow : ℕ → Call
  -- by section
  fail : ℕ → Call
  mend : ℕ → Call
  -- by block
  close : ℕ → Call
  -- the line number and the block that the slip bears
  hand_in : ℕ → ℕ → Call
  -- station and place
  ask_signal : ℕ → ℕ → Call
  ask_name : ℕ → Call
  -- the bytes that the panel has
  paint : ℕ → Call

-- ## Conditions

abbrev pub alike : Bool → Bool → Bool
alike true b = b
alike false b = not b

abbrev pub some_station : ℕ → Station
some_station n = unwrap_or (station_of n) EndA

-- reversing a reversed lever, normal to normal
abbrev pub there_already : ℕ → ℕ → Bool
there_already lever road = alike (lever == 0) (road == 0)

abbrev pub reversed : ℕ → Bool
reversed lever = not (lever == 0)

abbrev pub all_clear : Line → ℕ → Bool
all_clear line zero = true
all_clear line (suc n) = clear line (suc n) && all_clear line n

abbrev pub same_end : Station → Station → Bool
same_end a b = station_number a == station_number b

-- whether a test holds of some train
abbrev pub any_train : (Train → Bool) → List Train → Bool
any_train p trains = list_any p trains

-- a train's rear in the station and its front elsewhere
abbrev pub starter_held : Line → Station → Bool
starter_held line station =
    any_train (λ train. same_end train.from station && train.rear == 0
    && reversed train.front) line.trains

-- a train's front in the station and its rear elsewhere
abbrev pub home_held : Line → Station → Bool
home_held line station =
    any_train (λ train. same_end train.from (other_end station)
    && train.front == blocks line + 1) line.trains

abbrev pub train_index : Line → ℕ → Option ℕ
train_index line number = search_by (λ train. train.number) number line.trains

abbrev pub no_train : Train
no_train = record { number = 0; axles = 0; from = EndA; road = 0; rear = 0; front = 0; into = 0 }

abbrev pub train_of : Line → ℕ → Train
train_of line number = slice_index_or line.trains (unwrap_or (train_index line number) 0) no_train

abbrev pub name_index : Line → ℕ → Option ℕ
name_index line name = search_by (λ entry. entry.name) name line.plan

-- the section of a plan entry
abbrev pub entry_section : Line → ℕ → ℕ
entry_section line index =
    cond (nat_lt index (blocks line)) (index + 1)
    (cond (nat_lt index (blocks line + roads line EndA)) (17 + (index - blocks line))
    (21 + (index - (blocks line + roads line EndA))))

-- the front stands in the far station
abbrev pub ended : Line → Train → Bool
ended line train = train.front == blocks line + 1

-- the signal ahead shows stop, or the train stands in a road that the starter is not reversed for
abbrev pub at_stop : Shows → Line → Train → Bool
at_stop shows line train =
    (aspect_number (aspect_at shows line train.from (train.front + 1)) == 0)
    || (train.front == 0 && not ((levers_at line train.from).starter == train.road))

-- ## The plan

abbrev pub legal_entry : PlanEntry → Bool
legal_entry entry = within 1 9999 entry.name && within 100 9999 entry.metres

abbrev pub legal_entries : List PlanEntry → Bool
legal_entries plan = list_all legal_entry plan

abbrev pub has_name : ℕ → List PlanEntry → Bool
has_name name plan = list_any (λ entry. entry.name == name) plan

abbrev pub names_differ : List PlanEntry → Bool
names_differ [] = true
names_differ (entry ∷ entries) = not (has_name entry.name entries) && names_differ entries

abbrev pub all_vacant : Line → ℕ → Bool
all_vacant line zero = true
all_vacant line (suc n) = state_at line (suc n) == 0 && all_vacant line n

-- the limits of the numbers alone
abbrev pub legal_laying : Laying → Bool
legal_laying laying =
    within 1 16 laying.blocks && within 1 4 (roads_of laying EndA) && within 1 4 (roads_of laying EndB)
    && within 1 laying.blocks laying.reach && within 1 9999 laying.number

-- an entry for each section in use, with its own name
abbrev pub legal_plan : Laying → List PlanEntry → Bool
legal_plan laying plan =
    (length plan == laying.blocks + roads_of laying EndA + roads_of laying EndB)
    && legal_entries plan && names_differ plan

abbrev pub good_plan : Line → Laying → List PlanEntry → Bool
good_plan line laying plan =
    within 1 16 laying.blocks && within 1 4 (roads_of laying EndA) && within 1 4 (roads_of laying EndB)
    && within 1 laying.blocks laying.reach && within 1 9999 laying.number
    && length plan == laying.blocks + roads_of laying EndA + roads_of laying EndB
    && legal_entries plan && names_differ plan && all_vacant line 24

-- ## The rows that each call can meet, from the top

abbrev pub not_laid : Line → Row
not_laid line = (NotLaid, bare line)

abbrev pub no_station : ℕ → Row
no_station n = (NoStation, not (is_some (station_of n)))

-- the station of a number, or that row
abbrev pub station_called : ℕ → Result Station Refusal
station_called n = answer (topmost (no_station n ∷ [])) (some_station n)

abbrev pub no_train_of : Line → ℕ → Row
no_train_of line number = (NoTrain, not (is_some (train_index line number)))

abbrev pub not_in_use : Line → ℕ → Row
not_in_use line section = (NoSection, not (in_use line section))

abbrev pub no_block : Line → ℕ → Row
no_block line block = (NoSection, not (within 1 (blocks line) block))

abbrev pub not_clear : Line → ℕ → Row
not_clear line section = (NotClear, not (clear line section))

abbrev pub direction_rows : Line → Station → Bool → List Row
direction_rows line station send =
    (ThereAlready, alike (sends line station) send)
    ∷ (FarEndSends, send && sends line (other_end station))
    ∷ (LeverOnLever, reversed (cond send (levers_at line station).home (levers_at line station).starter))
    ∷ (LineNotClear, not send && not (all_clear line (blocks line)))
    ∷ []

abbrev pub starter_rows : Line → Station → ℕ → List Row
starter_rows line station road =
    (NoRoad, nat_lt (roads line station) road)
    ∷ (ThereAlready, there_already (levers_at line station).starter road)
    ∷ (WrongWay, reversed road && not (sends line station))
    ∷ (Held, (road == 0) && starter_held line station)
    ∷ []

abbrev pub home_rows : Line → Station → ℕ → List Row
home_rows line station road =
    (NoRoad, nat_lt (roads line station) road)
    ∷ (ThereAlready, there_already (levers_at line station).home road)
    ∷ (WrongWay, reversed road && sends line station)
    ∷ (Held, (road == 0) && home_held line station)
    ∷ []

abbrev pub put_on_rows : Line → ℕ → ℕ → Station → ℕ → List Row
put_on_rows line number axles station road =
    (NoRoad, (road == 0) || nat_lt (roads line station) road)
    ∷ (BadCard, not (within 1 9999 number && legal_axles axles))
    ∷ (NumberInUse, is_some (train_index line number))
    ∷ not_clear line (road_section station road)
    ∷ []

abbrev pub rows : Shows → Line → Call → List Row
rows shows line (lay laying plan) = (Laid, not (bare line)) ∷ (BadPlan, not (good_plan line laying plan)) ∷ []
rows shows line (direction n send) = not_laid line ∷ no_station n ∷ direction_rows line (some_station n) send
rows shows line (starter n road) = not_laid line ∷ no_station n ∷ starter_rows line (some_station n) road
rows shows line (home n road) = not_laid line ∷ no_station n ∷ home_rows line (some_station n) road
rows shows line (put_on number axles n road) =
    not_laid line ∷ no_station n ∷ put_on_rows line number axles (some_station n) road
rows shows line (withdraw number) =
    not_laid line ∷ no_train_of line number ∷ (TrainAway, not (wholly_in (train_of line number))) ∷ []
rows shows line (advance number) =
    not_laid line
    ∷ no_train_of line number
    ∷ (AtStop, not (ended line (train_of line number)) && at_stop shows line (train_of line number))
    ∷ (RoadsEnd, ended line (train_of line number))
    ∷ []
rows shows line (follow number) =
    not_laid line
    ∷ no_train_of line number
    ∷ (NothingBehind, ((train_of line number).rear == (train_of line number).front))
    ∷ []
rows shows line (fail section) =
    not_laid line ∷ not_in_use line section ∷ (SoAlready, (cell_of line.cells section).failed) ∷ []
rows shows line (mend section) =
    not_laid line ∷ not_in_use line section ∷ (SoAlready, not (cell_of line.cells section).failed) ∷ []
rows shows line (close block) = not_laid line ∷ no_block line block ∷ not_clear line block ∷ []
rows shows line (hand_in number block) =
    not_laid line
    ∷ no_block line block
    ∷ (StrangeSlip, not (number == (laying_of line).number) || not (closed_at line block))
    ∷ []
rows shows line (ask_signal n place) =
    not_laid line ∷ no_station n ∷ (NoSection, not (has_signal line (some_station n) place)) ∷ []
rows shows line (ask_name name) = not_laid line ∷ (NoSection, not (is_some (name_index line name))) ∷ []
rows shows line (paint bytes) = not_laid line ∷ (ShortPanel, nat_lt bytes 66) ∷ []

-- The row that turns a call down, if one does.
abbrev pub verdict : Shows → Line → Call → Option Refusal
verdict shows line call = topmost (rows shows line call)

-- ## What a call changes when no row holds

abbrev pub with_levers : Line → Station → Levers → Line
with_levers line EndA levers = record {
  laying = line.laying;
  plan = line.plan;
  trains = line.trains;
  at_a = levers;
  at_b = line.at_b;
  closed = line.closed;
  cells = line.cells;
}
with_levers line EndB levers = record {
  laying = line.laying;
  plan = line.plan;
  trains = line.trains;
  at_a = line.at_a;
  at_b = levers;
  closed = line.closed;
  cells = line.cells;
}

-- the cells once the track was told, or was not
abbrev pub cells_told : (ℕ → ℕ) → List Cell → Option TrackCall → List Cell
cells_told mark cells None = cells
cells_told mark cells (Some call) = track_after mark cells call

-- the trains another list, and the track told of an entering or a leaving
abbrev pub moved : (ℕ → ℕ) → Line → List Train → TrackCall → Line
moved mark line trains call = record {
  laying = line.laying;
  plan = line.plan;
  trains = trains;
  at_a = line.at_a;
  at_b = line.at_b;
  closed = line.closed;
  cells = track_after mark line.cells call;
}

abbrev pub with_closed : Line → ℕ → Bool → Line
with_closed line block shut = record {
  laying = line.laying;
  plan = line.plan;
  trains = line.trains;
  at_a = line.at_a;
  at_b = line.at_b;
  closed = slice_set line.closed (block - 1) shut;
  cells = line.cells;
}

abbrev pub as_laid : Line → Laying → List PlanEntry → Line
as_laid line laying plan = record {
  laying = Some laying;
  plan = plan;
  trains = line.trains;
  at_a = line.at_a;
  at_b = line.at_b;
  closed = line.closed;
  cells = line.cells;
}

-- a train that stands in a road
abbrev pub standing : ℕ → ℕ → Station → ℕ → Train
standing number axles station road = record {
  number = number;
  axles = axles;
  from = station;
  road = road;
  rear = 0;
  front = 0;
  into = 0;
}

-- The front one place on; at the far station it is in the home's road.
abbrev pub front_moved : Line → Train → Train
front_moved line train = record {
  number = train.number;
  axles = train.axles;
  from = train.from;
  road = train.road;
  rear = train.rear;
  front = train.front + 1;
  into = cond (train.front == blocks line) (levers_at line (other_end train.from)).home 0;
}

-- The rear one place on; come wholly in, the train stands in its road there.
abbrev pub rear_moved : Line → Train → Train
rear_moved line train =
    cond (train.rear == blocks line)
    (standing train.number train.axles (other_end train.from) train.into)
    (record {
      number = train.number;
      axles = train.axles;
      from = train.from;
      road = train.road;
      rear = train.rear + 1;
      front = train.front;
      into = train.into;
    })

-- the trains with that of a number another, or gone
abbrev pub with_train : Line → ℕ → Train → List Train
with_train line number train = slice_set line.trains (unwrap_or (train_index line number) 0) train

abbrev pub without_train : Line → ℕ → List Train
without_train line number =
    take (unwrap_or (train_index line number) 0) line.trains ++ drop (unwrap_or (train_index line number) 0 + 1)
    line.trains

abbrev advanced : (ℕ → ℕ) → Line → ℕ → Train → Line
advanced mark line number train =
    moved mark line (with_train line number (front_moved line train))
    (Enter (section_of (blocks line) (front_moved line train) (train.front + 1)) train.axles)

abbrev followed : (ℕ → ℕ) → Line → ℕ → Train → Line
followed mark line number train =
    moved mark line (with_train line number (rear_moved line train))
    (Leave (section_of (blocks line) train train.rear) train.axles)

abbrev pub turned : Levers → Bool → Levers
turned levers send = record { sends = send; starter = levers.starter; home = levers.home }

abbrev pub starter_put : Levers → ℕ → Levers
starter_put levers road = record { sends = levers.sends; starter = road; home = levers.home }

abbrev pub home_put : Levers → ℕ → Levers
home_put levers road = record { sends = levers.sends; starter = levers.starter; home = road }

abbrev pub effect : (ℕ → ℕ) → Line → Call → Line
effect mark line (lay laying plan) = as_laid line laying plan
effect mark line (direction n send) =
    with_levers line (some_station n) (turned (levers_at line (some_station n)) send)
effect mark line (starter n road) =
    with_levers line (some_station n) (starter_put (levers_at line (some_station n)) road)
effect mark line (home n road) = with_levers line (some_station n) (home_put (levers_at line (some_station n)) road)
effect mark line (put_on number axles n road) =
    moved mark line (line.trains ++ standing number axles (some_station n) road ∷ [])
    (Enter (road_section (some_station n) road) axles)
effect mark line (withdraw number) =
    moved mark line (without_train line number)
    (Leave (section_of (blocks line) (train_of line number) 0) (train_of line number).axles)
effect mark line (advance number) = advanced mark line number (train_of line number)
effect mark line (follow number) = followed mark line number (train_of line number)
effect mark line (fail section) = moved mark line line.trains (Fail section)
effect mark line (mend section) = moved mark line line.trains (Mend section)
effect mark line (close block) = with_closed line block true
effect mark line (hand_in number block) = with_closed line block false
effect mark line (ask_signal n place) = line
effect mark line (ask_name name) = line
effect mark line (paint bytes) = line

-- The line after a call: turned down, nothing alters.
abbrev pub line_after : Shows → (ℕ → ℕ) → Line → Call → Line
line_after shows mark line call = after (verdict shows line call) line (effect mark line call)
