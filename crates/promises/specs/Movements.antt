-- The movements worked through in the rules, as one list: what is done, and what comes of it.
use Rattle.std.specs.Prelude.{◌≡◌, ℕ, ◌+◌, ◌-◌, Bool, true, false, cond, List, [], ◌∷◌, ◌++◌, map, replicate, ◌==◌}
use Rattle.std.specs.Prelude.{take}
use Rattle.std.specs.List.{range_with_len}
use Rattle.rules.specs.Aspects.{lamp_set_shows, cab_shows}
use Rattle.rules.specs.Calls.{Call, lay, direction, starter, home, put_on, withdraw, advance, follow, fail, mend}
use Rattle.rules.specs.Calls.{close, hand_in, ask_signal, ask_name, paint, line_after, train_of}
use Rattle.rules.specs.Detection.{new_cell, new_cells, with_failed}
use Rattle.rules.specs.LineRuns.{Answer, done, turned_down, signal, section, slip, painted, answer_to}
use Rattle.rules.specs.Lines.{Line, new_line, blocks, holds}
use Rattle.rules.specs.Panels.{panel_byte}
use Rattle.rules.specs.Signals.{Shows}
use Rattle.rules.specs.declared.aspect.Aspect.{Aspect}
use Rattle.rules.specs.declared.aspect.Aspect.TheVariants.{Stop, Restricted, Caution, Reduced, Clear}
use Rattle.rules.specs.declared.aspect.LampSet.TheVariants.{Three, Five}
use Rattle.rules.specs.declared.detection.Cell.{Cell}
use Rattle.rules.specs.declared.line.PlanEntry.{PlanEntry}
use Rattle.rules.specs.declared.refusal.Refusal.{Refusal}
use Rattle.rules.specs.declared.refusal.Refusal.TheVariants.{NotLaid, Laid, BadPlan, NoStation, NoSection, NoRoad}
use Rattle.rules.specs.declared.refusal.Refusal.TheVariants.{BadCard, NumberInUse, NoTrain, ThereAlready, FarEndSends}
use Rattle.rules.specs.declared.refusal.Refusal.TheVariants.{WrongWay, LeverOnLever, LineNotClear, Held, NotClear}
use Rattle.rules.specs.declared.refusal.Refusal.TheVariants.{AtStop, RoadsEnd, NothingBehind, TrainAway, StrangeSlip}
use Rattle.rules.specs.declared.refusal.Refusal.TheVariants.{SoAlready, ShortPanel}

-- One thing done: a call or question, a look at a byte of the panel, or the cab signal asked for a count and metres.
pub data Step : Type 0 where
  call : Call → Step
  byte : ℕ → Step
  cab : ℕ → ℕ → Step

-- What came of it.
pub data Sight : Type 0 where
  answered : Answer → Sight
  shown : ℕ → Sight
  aspect : Aspect → Sight

-- Three lamps over track circuits, on a new line over a new track.
abbrev pub three : Shows
three r m = lamp_set_shows Three r

abbrev pub circuit : ℕ → ℕ
circuit axles = 1

abbrev sight : Line → Step → Sight
sight line (call c) = answered (answer_to three line c)
sight line (byte k) = shown (panel_byte three line k)
sight line (cab r m) = aspect (cab_shows r m)

abbrev line_then : Line → Step → Line
line_then line (call c) = line_after three circuit line c
line_then line (byte k) = line
line_then line (cab r m) = line

abbrev sights : Line → List Step → List Sight
sights line [] = []
sights line (step ∷ steps) = sight line step ∷ sights (line_then line step) steps

-- A movement: each step beside what must come of it.
abbrev pub Movement : Type 0
Movement = List (Step × Sight)

abbrev steps_of : Movement → List Step
steps_of movement = map (λ pair. pair.0) movement

abbrev pub expected : Movement → List Sight
expected movement = map (λ pair. pair.1) movement

abbrev yields : Movement → List Sight
yields movement = sights (new_line new_cells) (steps_of movement)

-- What a movement is worked on, where it is not that: lamps, and the cells of the track that the new line is made from.
pub record Box : Type 0 where
  pub lamps : Shows
  pub cells : List Cell

-- three lamps over new track circuits; five lamps, and the cab signal, over the same
abbrev pub plain : Box
plain = record { lamps = three; cells = new_cells }

abbrev five : Box
five = record { lamps = λ r m. lamp_set_shows Five r; cells = new_cells }

abbrev by_metres : Box
by_metres = record { lamps = cab_shows; cells = new_cells }

abbrev sight_with : Shows → Line → Step → Sight
sight_with shows line (call c) = answered (answer_to shows line c)
sight_with shows line (byte k) = shown (panel_byte shows line k)
sight_with shows line (cab r m) = aspect (cab_shows r m)

abbrev line_then_with : Shows → Line → Step → Line
line_then_with shows line (call c) = line_after shows circuit line c
line_then_with shows line (byte k) = line
line_then_with shows line (cab r m) = line

abbrev sights_with : Shows → Line → List Step → List Sight
sights_with shows line [] = []
sights_with shows line (step ∷ steps) =
    sight_with shows line step ∷ sights_with shows (line_then_with shows line step) steps

abbrev pub yields_in : Box → Movement → List Sight
yields_in box movement = sights_with box.lamps (new_line box.cells) (steps_of movement)

-- a call that is carried out, and one turned down by a row
abbrev ok : Call → Step × Sight
ok c = (call c, answered done)

abbrev no : Call → Refusal → Step × Sight
no c refusal = (call c, answered (turned_down refusal))

abbrev gives : ℕ → ℕ → Aspect → ℕ → Step × Sight
gives station place shows count = (call (ask_signal station place), answered (signal shows count))

-- the plan of a script's laying: the section numbers as names, 500 metres each
abbrev named : ℕ → PlanEntry
named name = record { name = name; metres = 500 }

abbrev plan_of : ℕ → ℕ → ℕ → List PlanEntry
plan_of n a b = map named (range_with_len 1 n ++ (range_with_len 17 a ++ range_with_len 21 b))

abbrev pub laid : ℕ → ℕ → ℕ → ℕ → Call
laid n a b reach = lay (record { number = 1; blocks = n; roads_a = a; roads_b = b; reach = reach }) (plan_of n a b)

abbrev sample_line : Step × Sight
sample_line = ok (laid 3 2 2 1)

-- 1. A sends; B to send.
abbrev both_to_send : Movement
both_to_send = sample_line ∷ ok (direction 1 true) ∷ no (direction 2 true) FarEndSends ∷ []

-- 2. Both receive; A to send is done, then A's lock lamp is dark and B's lit.
abbrev lock_lamps : Movement
lock_lamps = sample_line ∷ ok (direction 1 true) ∷ (byte 64, shown 0) ∷ (byte 65, shown 1) ∷ []

-- 3. A sends with its starter reversed; A to receive.
abbrev starter_locks_direction : Movement
starter_locks_direction =
    sample_line ∷ ok (direction 1 true) ∷ ok (starter 1 1) ∷ no (direction 1 false) LeverOnLever ∷ []

-- 4. A sends, starter normal, a train in block 2; A to receive.
abbrev train_locks_direction : Movement
train_locks_direction =
    sample_line ∷ ok (put_on 101 8 1 1) ∷ ok (direction 1 true) ∷ ok (starter 1 1) ∷ ok (advance 101) ∷ ok (follow 101)
    ∷ ok (starter 1 0) ∷ ok (advance 101) ∷ ok (follow 101) ∷ no (direction 1 false) LineNotClear ∷ []

-- 5. Rear at place 0, front at place 1: the starter is held, and after one follow it is not.
abbrev starter_is_held : Movement
starter_is_held =
    sample_line ∷ ok (put_on 101 8 1 1) ∷ ok (direction 1 true) ∷ ok (starter 1 1) ∷ ok (advance 101)
    ∷ no (starter 1 0) Held ∷ ok (follow 101) ∷ ok (starter 1 0) ∷ []

-- 6. The starter's signal: all clear, block 3 closed, block 2 closed, block 1 failed; each alone.
abbrev cleared : List (Step × Sight)
cleared = sample_line ∷ ok (direction 1 true) ∷ ok (starter 1 1) ∷ gives 1 1 Clear 3 ∷ []

abbrev closing : ℕ → Step × Sight
closing block = (call (close block), answered (slip 1 block))

abbrev third_closed : Movement
third_closed = cleared ++ (closing 3 ∷ gives 1 1 Clear 2 ∷ [])

abbrev second_closed : Movement
second_closed = cleared ++ (closing 2 ∷ gives 1 1 Caution 1 ∷ [])

abbrev first_failed : Movement
first_failed = cleared ++ (ok (fail 1) ∷ gives 1 1 Stop 0 ∷ [])

-- 7. As 6 with reach 3 and block 3 closed.
abbrev short_of_reach : Movement
short_of_reach =
    ok (laid 3 2 2 3) ∷ ok (direction 1 true) ∷ ok (starter 1 1) ∷ gives 1 1 Clear 3 ∷ closing 3 ∷ gives 1 1 Stop 0
    ∷ []

-- 8. The cab signal at its limits.
abbrev cab_limits : Movement
cab_limits =
    (cab 1 101, aspect Restricted) ∷ (cab 1 102, aspect Caution) ∷ (cab 1 211, aspect Caution)
    ∷ (cab 1 212, aspect Reduced) ∷ (cab 1 451, aspect Reduced) ∷ (cab 1 452, aspect Clear) ∷ []

-- 9. N of 0 and of 17 are turned down, N of 16 is laid; the names differ, so that N alone breaks a limit.
abbrev laid_under_new_names : ℕ → Call
laid_under_new_names n =
    lay (record { number = 1; blocks = n; roads_a = 2; roads_b = 2; reach = 1 }) (map named (range_with_len 1 (n + 4)))

abbrev limits_of_n : Movement
limits_of_n =
    no (laid_under_new_names 0) BadPlan ∷ no (laid_under_new_names 17) BadPlan ∷ ok (laid_under_new_names 16) ∷ []

-- 10. N of 1: the home is on a taken road and is put to another, and the train comes in.
abbrev home_to_another_road : Movement
home_to_another_road =
    ok (laid 1 2 2 1) ∷ ok (put_on 7 8 2 1) ∷ ok (put_on 101 8 1 1) ∷ ok (direction 1 true) ∷ ok (starter 1 1)
    ∷ ok (advance 101) ∷ ok (home 2 1) ∷ gives 1 2 Stop 0
    ∷ ok (home 2 0) ∷ ok (home 2 2) ∷ ok (advance 101) ∷ ok (follow 101) ∷ ok (follow 101)
    ∷ (byte 0, shown 0) ∷ (byte 21, shown 1) ∷ []

-- The same from B, over two blocks and into one of three roads: 7 calls bring the train in.
abbrev from_the_other_end : Movement
from_the_other_end =
    ok (laid 2 3 1 1) ∷ ok (put_on 7 8 1 1) ∷ ok (put_on 101 8 2 1) ∷ ok (direction 2 true) ∷ ok (starter 2 1)
    ∷ ok (advance 101) ∷ (byte 1, shown 1) ∷ ok (home 1 1)
    ∷ ok (home 1 0) ∷ ok (home 1 3) ∷ ok (advance 101) ∷ ok (advance 101) ∷ ok (follow 101) ∷ ok (follow 101)
    ∷ ok (follow 101) ∷ (byte 0, shown 0) ∷ (byte 1, shown 0) ∷ (byte 18, shown 1) ∷ (byte 20, shown 0) ∷ []

-- 11. The limits of a card.
abbrev limits_of_a_card : Movement
limits_of_a_card =
    sample_line ∷ ok (put_on 9999 8 1 1) ∷ ok (put_on 1 400 1 2) ∷ no (put_on 10000 8 2 1) BadCard
    ∷ no (put_on 2 401 2 1) BadCard ∷ no (put_on 2 1 2 1) BadCard ∷ []

-- 12. A section that fails and is mended under a train.
abbrev mended_under_a_train : Movement
mended_under_a_train =
    sample_line ∷ ok (put_on 101 8 1 1) ∷ (byte 16, shown 1) ∷ ok (fail 17) ∷ (byte 16, shown 2) ∷ ok (mend 17)
    ∷ (byte 16, shown 1) ∷ []

-- The sample script of the rehearsal program.
abbrev sample_script : Movement
sample_script =
    sample_line ∷ ok (put_on 101 8 1 1) ∷ ok (direction 1 true) ∷ ok (starter 1 1) ∷ gives 1 1 Clear 3
    ∷ ok (advance 101)
    ∷ gives 1 1 Stop 0 ∷ ok (follow 101) ∷ ok (starter 1 0) ∷ no (direction 1 false) LineNotClear ∷ ok (advance 101)
    ∷ []

-- ## Row by row, for station s, which is 1 or 2

abbrev pub far : ℕ → ℕ
far s = 3 - s

-- the block so many places on from station s, on a line of n blocks
abbrev pub block_from : ℕ → ℕ → ℕ → ℕ
block_from n s distance = cond (s == 1) distance ((n + 1) - distance)

abbrev road_of : ℕ → ℕ → ℕ
road_of s road = cond (s == 1) (16 + road) (20 + road)

-- a section's byte on the panel
abbrev reads : ℕ → ℕ → Step × Sight
reads s state = (byte (s - 1), shown state)

-- A has one road, B three.
abbrev unequal : ℕ → Step × Sight
unequal n = ok (laid n 1 3 1)

abbrev roads_at : ℕ → ℕ
roads_at s = cond (s == 1) 1 3

-- While the line is bare, nothing but laying; and that only once.
abbrev bare_line : Movement
bare_line =
    no (direction 1 true) NotLaid ∷ no (starter 1 1) NotLaid ∷ no (home 1 1) NotLaid ∷ no (put_on 101 8 1 1) NotLaid
    ∷ no (withdraw 101) NotLaid ∷ no (advance 101) NotLaid ∷ no (follow 101) NotLaid ∷ no (fail 1) NotLaid
    ∷ no (mend 1) NotLaid ∷ no (close 1) NotLaid ∷ no (hand_in 1 1) NotLaid ∷ no (ask_signal 1 1) NotLaid
    ∷ no (ask_name 1) NotLaid ∷ no (paint 66) NotLaid ∷ sample_line ∷ no (laid 3 2 2 1) Laid ∷ no (laid 0 2 2 1) Laid
    ∷ []

-- Each number of a laying at its limits and beyond them.
abbrev numbered : ℕ → ℕ → ℕ → ℕ → ℕ → Call
numbered number n a b reach =
    lay (record { number = number; blocks = n; roads_a = a; roads_b = b; reach = reach }) (plan_of n a b)

abbrev limits_of_numbers : Movement
limits_of_numbers =
    no (numbered 0 2 1 1 1) BadPlan ∷ no (numbered 10000 2 1 1 1) BadPlan ∷ no (numbered 1 2 0 1 1) BadPlan
    ∷ no (numbered 1 2 5 1 1) BadPlan ∷ no (numbered 1 2 1 0 1) BadPlan ∷ no (numbered 1 2 1 5 1) BadPlan
    ∷ no (numbered 1 2 1 1 0) BadPlan ∷ no (numbered 1 2 1 1 3) BadPlan ∷ ok (numbered 9999 16 4 4 16) ∷ []

-- Each entry of a plan at its limits and beyond them; names twice; an entry too few and one too many.
abbrev entry : ℕ → ℕ → PlanEntry
entry name metres = record { name = name; metres = metres }

abbrev planned : List PlanEntry → Call
planned plan = lay (record { number = 1; blocks = 1; roads_a = 1; roads_b = 1; reach = 1 }) plan

abbrev limits_of_a_plan : Movement
limits_of_a_plan =
    no (planned (entry 0 500 ∷ entry 2 500 ∷ entry 3 500 ∷ [])) BadPlan
    ∷ no (planned (entry 1 500 ∷ entry 10000 500 ∷ entry 3 500 ∷ [])) BadPlan
    ∷ no (planned (entry 1 500 ∷ entry 2 500 ∷ entry 1 500 ∷ [])) BadPlan
    ∷ no (planned (entry 1 99 ∷ entry 2 500 ∷ entry 3 500 ∷ [])) BadPlan
    ∷ no (planned (entry 1 500 ∷ entry 2 500 ∷ entry 3 10000 ∷ [])) BadPlan
    ∷ no (planned (entry 1 500 ∷ entry 2 500 ∷ [])) BadPlan
    ∷ no (planned (entry 1 500 ∷ entry 2 500 ∷ entry 3 500 ∷ entry 4 500 ∷ [])) BadPlan
    ∷ ok (planned (entry 1 100 ∷ entry 9999 9999 ∷ entry 3 500 ∷ [])) ∷ []

-- A track with a section out of order, though it would not be in use: no laying.
abbrev last_failed : Box
last_failed = record { lamps = three; cells = replicate 23 new_cell ++ with_failed new_cell true ∷ [] }

abbrev track_not_vacant : Movement
track_not_vacant = no (laid 3 2 2 1) BadPlan ∷ []

-- The direction lever.
abbrev direction_by_rows : ℕ → Movement
direction_by_rows s =
    sample_line ∷ no (direction 0 true) NoStation ∷ no (direction 3 false) NoStation
    ∷ no (direction s false) ThereAlready ∷ ok (home s 1) ∷ no (direction s true) LeverOnLever ∷ ok (home s 0)
    ∷ ok (direction s true) ∷ no (direction s true) ThereAlready ∷ no (direction (far s) false) ThereAlready
    ∷ ok (home (far s) 1) ∷ no (direction (far s) true) FarEndSends ∷ ok (home (far s) 0)
    ∷ ok (starter s 1) ∷ closing 3 ∷ no (direction s false) LeverOnLever ∷ ok (starter s 0)
    ∷ no (direction s false) LineNotClear ∷ ok (hand_in 1 3) ∷ ok (fail 1) ∷ no (direction s false) LineNotClear
    ∷ ok (mend 1) ∷ ok (direction s false) ∷ ok (direction (far s) true) ∷ []

-- The starter: reversed only where its station sends, held until the rear has left the road.
abbrev starter_by_rows : ℕ → Movement
starter_by_rows s =
    unequal 2 ∷ no (starter 3 1) NoStation ∷ no (starter s (roads_at s + 1)) NoRoad
    ∷ no (starter s 0) ThereAlready ∷ no (starter s 1) WrongWay
    ∷ ok (direction s true) ∷ no (starter (far s) 1) WrongWay
    ∷ ok (starter s (roads_at s)) ∷ (byte (59 + s), shown (roads_at s)) ∷ no (starter s 1) ThereAlready
    ∷ ok (put_on 101 8 s (roads_at s)) ∷ ok (starter s 0) ∷ ok (starter s (roads_at s)) ∷ ok (advance 101)
    ∷ no (starter s 0) Held ∷ ok (advance 101) ∷ no (starter s 0) Held ∷ ok (follow 101) ∷ ok (starter s 0) ∷ []

-- The home: reversed only where its station receives, held until the rear has left the last block.
abbrev home_by_rows : ℕ → Movement
home_by_rows s =
    unequal 1 ∷ no (home 0 1) NoStation ∷ no (home s (roads_at s + 1)) NoRoad ∷ no (home s 0) ThereAlready
    ∷ ok (home s (roads_at s)) ∷ (byte (61 + s), shown (roads_at s)) ∷ no (home s 1) ThereAlready ∷ ok (home s 0)
    ∷ ok (direction (far s) true) ∷ ok (home s (roads_at s)) ∷ no (home (far s) 1) WrongWay
    ∷ ok (put_on 101 8 (far s) 1) ∷ ok (starter (far s) 1) ∷ ok (advance 101) ∷ ok (home s 0)
    ∷ ok (home s (roads_at s))
    ∷ ok (advance 101) ∷ no (home s 0) Held ∷ ok (follow 101) ∷ no (home s 0) Held ∷ ok (follow 101) ∷ ok (home s 0)
    ∷ []

-- Putting on and withdrawing.
abbrev cards_by_rows : ℕ → Movement
cards_by_rows s =
    unequal 2 ∷ no (put_on 1 8 3 1) NoStation ∷ no (put_on 1 8 s 0) NoRoad ∷ no (put_on 1 8 s (roads_at s + 1)) NoRoad
    ∷ no (put_on 0 8 s 1) BadCard ∷ ok (put_on 1 8 s (roads_at s)) ∷ reads (road_of s (roads_at s)) 1
    ∷ no (put_on 1 8 s (roads_at s)) NumberInUse ∷ no (put_on 2 8 s (roads_at s)) NotClear
    ∷ no (withdraw 0) NoTrain ∷ no (withdraw 2) NoTrain ∷ ok (withdraw 1) ∷ reads (road_of s (roads_at s)) 0
    ∷ no (withdraw 1) NoTrain ∷ ok (fail (road_of s (roads_at s))) ∷ no (put_on 2 8 s (roads_at s)) NotClear
    ∷ ok (mend (road_of s (roads_at s))) ∷ ok (put_on 2 8 s (roads_at s)) ∷ []

-- A train waits for its own starter: not while it is normal, nor while it is reversed for another road.
abbrev its_own_starter : ℕ → Movement
its_own_starter s =
    sample_line ∷ ok (put_on 101 8 s 1) ∷ ok (put_on 102 8 s 2) ∷ ok (direction s true) ∷ no (advance 101) AtStop
    ∷ ok (starter s 2) ∷ no (advance 101) AtStop ∷ ok (advance 102) ∷ no (advance 101) AtStop ∷ []

-- A train over two blocks and both its roads: every section from rear to front reads occupied, and it cannot be
-- withdrawn.
abbrev whole_length : ℕ → Movement
whole_length s =
    ok (laid 2 2 2 1) ∷ ok (put_on 101 8 s 2) ∷ no (follow 101) NothingBehind ∷ no (advance 7) NoTrain
    ∷ no (follow 7) NoTrain ∷ ok (direction s true) ∷ ok (starter s 2) ∷ ok (advance 101) ∷ no (withdraw 101) TrainAway
    ∷ ok (advance 101) ∷ no (advance 101) AtStop ∷ ok (home (far s) 1) ∷ ok (advance 101)
    ∷ no (advance 101) RoadsEnd ∷ reads (road_of s 2) 1 ∷ reads 1 1 ∷ reads 2 1 ∷ reads (road_of (far s) 1) 1
    ∷ ok (follow 101) ∷ reads (road_of s 2) 0 ∷ reads (block_from 2 s 1) 1 ∷ no (withdraw 101) TrainAway
    ∷ ok (follow 101) ∷ reads (block_from 2 s 1) 0 ∷ reads (block_from 2 s 2) 1
    ∷ ok (follow 101) ∷ reads (block_from 2 s 2) 0 ∷ no (follow 101) NothingBehind ∷ reads (road_of (far s) 1) 1
    ∷ ok (withdraw 101) ∷ reads (road_of (far s) 1) 0 ∷ []

-- A train that has come in goes back from the road in which it stands.
abbrev there_and_back : ℕ → Movement
there_and_back s =
    ok (laid 1 2 2 1) ∷ ok (put_on 101 8 s 1) ∷ ok (direction s true) ∷ ok (starter s 1) ∷ ok (home (far s) 2)
    ∷ ok (advance 101) ∷ ok (follow 101) ∷ ok (advance 101) ∷ ok (follow 101) ∷ no (advance 101) AtStop
    ∷ ok (starter s 0) ∷ ok (home (far s) 0) ∷ ok (direction s false) ∷ ok (direction (far s) true)
    ∷ ok (starter (far s) 1) ∷ no (advance 101) AtStop ∷ ok (starter (far s) 0) ∷ ok (starter (far s) 2)
    ∷ ok (advance 101) ∷ reads 1 1 ∷ ok (follow 101) ∷ reads (road_of (far s) 2) 0
    ∷ ok (home s 1) ∷ ok (advance 101) ∷ ok (follow 101) ∷ reads (road_of s 1) 1 ∷ reads 1 0 ∷ []

-- A road fails under a train, and the train leaves it: out of order until it is mended, and then vacant. It does not
-- pass into a block that is out of order.
abbrev left_out_of_order : ℕ → Movement
left_out_of_order s =
    sample_line ∷ ok (put_on 101 8 s 1) ∷ ok (direction s true) ∷ ok (starter s 1) ∷ ok (advance 101)
    ∷ ok (fail (road_of s 1)) ∷ ok (follow 101) ∷ reads (road_of s 1) 2 ∷ ok (mend (road_of s 1))
    ∷ reads (road_of s 1) 0 ∷ ok (fail 2) ∷ no (advance 101) AtStop ∷ ok (mend 2) ∷ ok (advance 101) ∷ reads 2 1 ∷ []

-- Failing and mending: only sections in use, and only what is not so already.
abbrev failing_by_rows : Movement
failing_by_rows =
    unequal 2 ∷ no (fail 0) NoSection ∷ no (fail 3) NoSection ∷ no (fail 16) NoSection ∷ no (fail 18) NoSection
    ∷ no (fail 20) NoSection ∷ no (fail 24) NoSection ∷ no (fail 25) NoSection ∷ no (mend 24) NoSection
    ∷ ok (fail 2) ∷ no (fail 2) SoAlready ∷ ok (mend 2) ∷ no (mend 2) SoAlready
    ∷ ok (fail 17) ∷ ok (fail 21) ∷ ok (fail 23) ∷ reads 23 2 ∷ reads 22 0 ∷ ok (mend 23) ∷ reads 23 0 ∷ []

-- Slips: of blocks only, of this line only, and only while the block is closed.
abbrev slips_by_rows : Movement
slips_by_rows =
    ok (numbered 7 2 1 3 1) ∷ no (close 0) NoSection ∷ no (close 3) NoSection ∷ no (close 17) NoSection
    ∷ (call (close 2), answered (slip 7 2)) ∷ reads 2 3 ∷ reads 1 0 ∷ no (close 2) NotClear
    ∷ no (hand_in 7 0) NoSection ∷ no (hand_in 7 3) NoSection ∷ no (hand_in 7 1) StrangeSlip
    ∷ no (hand_in 1 2) StrangeSlip ∷ reads 2 3 ∷ ok (fail 2) ∷ reads 2 2 ∷ ok (hand_in 7 2) ∷ no (close 2) NotClear
    ∷ ok (mend 2) ∷ reads 2 0 ∷ no (hand_in 7 2) StrangeSlip
    ∷ ok (put_on 101 8 1 1) ∷ ok (direction 1 true) ∷ ok (starter 1 1) ∷ ok (advance 101) ∷ no (close 1) NotClear ∷ []

-- Which signals there are; a home wants its trains' station to send, and its road clear.
abbrev signals_by_rows : Movement
signals_by_rows =
    unequal 2 ∷ no (ask_signal 0 1) NoStation ∷ no (ask_signal 3 1) NoStation ∷ no (ask_signal 1 0) NoSection
    ∷ no (ask_signal 1 4) NoSection ∷ no (ask_signal 2 3) NoSection ∷ gives 1 1 Stop 0 ∷ gives 2 2 Stop 0
    ∷ gives 1 2 Stop 0 ∷ gives 2 1 Stop 0 ∷ gives 1 3 Stop 0 ∷ gives 2 0 Stop 0 ∷ []

abbrev home_signal : ℕ → Movement
home_signal s =
    unequal 2 ∷ ok (home (far s) 1) ∷ gives s (cond (s == 1) 3 0) Stop 0 ∷ ok (direction s true)
    ∷ gives s (cond (s == 1) 3 0) Caution 1 ∷ gives s (block_from 2 s 2) Caution 1 ∷ gives s (block_from 2 s 1) Stop 0
    ∷ gives (far s) (block_from 2 s 2) Stop 0 ∷ ok (fail (road_of (far s) 1)) ∷ gives s (cond (s == 1) 3 0) Stop 0
    ∷ ok (mend (road_of (far s) 1)) ∷ ok (put_on 7 8 (far s) 1) ∷ gives s (cond (s == 1) 3 0) Stop 0 ∷ []

-- The question by name: blocks first, then A's roads, then B's.
abbrev lengths : Call
lengths =
    lay (record { number = 1; blocks = 3; roads_a = 1; roads_b = 2; reach = 1 })
    (entry 11 100 ∷ entry 12 110 ∷ entry 13 250 ∷ entry 14 101 ∷ entry 15 102 ∷ entry 16 500 ∷ [])

abbrev named_so : ℕ → ℕ → Step × Sight
named_so name s = (call (ask_name name), answered (section s))

abbrev names : Movement
names =
    ok lengths ∷ no (ask_name 0) NoSection ∷ no (ask_name 10) NoSection ∷ no (ask_name 17) NoSection ∷ named_so 11 1
    ∷ named_so 13 3 ∷ named_so 14 17 ∷ named_so 15 21 ∷ named_so 16 22 ∷ []

-- The cab signal goes by the metres of the very blocks counted, and of the home's road.
abbrev metres_from_a : Movement
metres_from_a =
    ok lengths ∷ ok (direction 1 true) ∷ ok (starter 1 1) ∷ gives 1 1 Clear 3 ∷ gives 1 2 Reduced 2
    ∷ gives 1 3 Reduced 1 ∷ ok (home 2 1) ∷ gives 1 4 Caution 1 ∷ ok (home 2 0) ∷ ok (home 2 2) ∷ gives 1 4 Clear 1
    ∷ closing 3 ∷ gives 1 1 Caution 2 ∷ closing 2 ∷ gives 1 1 Restricted 1 ∷ []

abbrev metres_from_b : Movement
metres_from_b =
    ok lengths ∷ ok (direction 2 true) ∷ ok (starter 2 2) ∷ gives 2 3 Clear 3 ∷ gives 2 2 Caution 2
    ∷ gives 2 1 Restricted 1 ∷ ok (home 1 1) ∷ gives 2 0 Restricted 1 ∷ closing 1 ∷ gives 2 3 Reduced 2
    ∷ gives 2 2 Caution 1 ∷ closing 2 ∷ gives 2 3 Reduced 1 ∷ []

-- Painting: the whole panel, with a train out of A, and with one out of B.
abbrev flat : List (List ℕ) → List ℕ
flat [] = []
flat (part ∷ parts) = part ++ flat parts

abbrev no_such : ℕ → List ℕ
no_such n = replicate n 255

abbrev paints : List (List ℕ) → Step × Sight
paints parts = (call (paint 66), answered (painted (flat parts)))

abbrev panel_from_a : Movement
panel_from_a =
    ok (laid 5 1 3 2) ∷ no (paint 65) ShortPanel ∷ ok (put_on 101 8 1 1) ∷ ok (put_on 7 8 2 2) ∷ ok (direction 1 true)
    ∷ ok (starter 1 1) ∷ ok (advance 101) ∷ closing 4 ∷ ok (fail 3) ∷ ok (home 2 3)
    ∷ paints ((1 ∷ 0 ∷ 2 ∷ 3 ∷ 0 ∷ []) ∷ no_such 11 ∷ (1 ∷ []) ∷ no_such 3 ∷ (0 ∷ 1 ∷ 0 ∷ []) ∷ no_such 1
    ∷ (0 ∷ 2 ∷ 0 ∷ 0 ∷ 2 ∷ 2 ∷ []) ∷ no_such 11 ∷ replicate 6 0 ∷ no_such 11
    ∷ (1 ∷ 0 ∷ []) ∷ (1 ∷ 0 ∷ []) ∷ (0 ∷ 3 ∷ []) ∷ (1 ∷ 1 ∷ []) ∷ [])
    ∷ []

abbrev panel_from_b : Movement
panel_from_b =
    ok (laid 5 1 3 2) ∷ ok (put_on 101 8 2 3) ∷ ok (direction 2 true) ∷ ok (starter 2 3) ∷ ok (advance 101)
    ∷ ok (follow 101) ∷ closing 1 ∷ ok (fail 21) ∷ ok (home 1 1)
    ∷ paints ((3 ∷ 0 ∷ 0 ∷ 0 ∷ 1 ∷ []) ∷ no_such 11 ∷ (0 ∷ []) ∷ no_such 3 ∷ (2 ∷ 0 ∷ 0 ∷ []) ∷ no_such 1
    ∷ replicate 6 0 ∷ no_such 11 ∷ (2 ∷ 0 ∷ 2 ∷ 4 ∷ 4 ∷ 0 ∷ []) ∷ no_such 11
    ∷ (0 ∷ 1 ∷ []) ∷ (0 ∷ 3 ∷ []) ∷ (1 ∷ 0 ∷ []) ∷ (1 ∷ 1 ∷ []) ∷ [])
    ∷ []

-- The panel of a line where nothing is set: both lock lamps dark.
abbrev panel_at_rest : Movement
panel_at_rest =
    ok (laid 16 4 4 1)
    ∷ paints (replicate 24 0 ∷ replicate 34 0 ∷ (0 ∷ 0 ∷ []) ∷ (0 ∷ 0 ∷ []) ∷ (0 ∷ 0 ∷ []) ∷ (0 ∷ 0 ∷ []) ∷ []) ∷ []

-- Five lamps count up to four clear blocks.
abbrev five_lamps : ℕ → Movement
five_lamps s =
    ok (laid 5 1 1 2) ∷ ok (direction s true) ∷ ok (starter s 1) ∷ gives s (block_from 5 s 1) Clear 5
    ∷ closing (block_from 5 s 5) ∷ gives s (block_from 5 s 1) Clear 4
    ∷ closing (block_from 5 s 4) ∷ gives s (block_from 5 s 1) Reduced 3
    ∷ closing (block_from 5 s 3) ∷ gives s (block_from 5 s 1) Caution 2 ∷ gives s (block_from 5 s 2) Restricted 1
    ∷ closing (block_from 5 s 2) ∷ gives s (block_from 5 s 1) Stop 0 ∷ []

-- ## All of them

abbrev pub for_either : List (ℕ → Movement) → List Movement
for_either [] = []
for_either (movement ∷ movements) = movement 1 ∷ movement 2 ∷ for_either movements

abbrev pub worked : List Movement
worked =
    both_to_send ∷ lock_lamps ∷ starter_locks_direction ∷ train_locks_direction ∷ starter_is_held ∷ third_closed
    ∷ second_closed ∷ first_failed ∷ short_of_reach ∷ cab_limits ∷ limits_of_n ∷ home_to_another_road
    ∷ from_the_other_end ∷ limits_of_a_card ∷ mended_under_a_train ∷ sample_script ∷ []

-- The rules yield each line of every movement.
abbrev pub WorkedThrough : Type 0
WorkedThrough = map yields worked ≡ map expected worked

abbrev by_rows : List Movement
by_rows =
    bare_line ∷ limits_of_numbers ∷ limits_of_a_plan ∷ failing_by_rows ∷ slips_by_rows ∷ signals_by_rows ∷ names
    ∷ panel_from_a ∷ panel_from_b ∷ panel_at_rest
    ∷ for_either (direction_by_rows ∷ starter_by_rows ∷ home_by_rows ∷ cards_by_rows ∷ its_own_starter ∷ whole_length
    ∷ there_and_back ∷ left_out_of_order ∷ home_signal ∷ [])

abbrev on : Box → List Movement → List (Box × Movement)
on box movements = map (λ movement. (box, movement)) movements

abbrev pub worked_in_boxes : List (Box × Movement)
worked_in_boxes =
    on plain by_rows ++ (on last_failed (track_not_vacant ∷ [])
    ++ (on by_metres (metres_from_a ∷ metres_from_b ∷ []) ++ on five (for_either (five_lamps ∷ []))))

abbrev pub worked_everywhere : List (Box × Movement)
worked_everywhere = on plain worked ++ worked_in_boxes

-- The rules yield each line of these too.
abbrev pub WorkedInBoxes : Type 0
WorkedInBoxes =
    map (λ work. yields_in work.0 work.1) worked_in_boxes ≡ map (λ work. expected work.1) worked_in_boxes

-- ## What a train holds on its way

abbrev after_steps : Line → List Step → Line
after_steps line [] = line
after_steps line (step ∷ steps) = after_steps (line_then line step) steps

-- whether train 101 holds each of some sections once so many steps of a movement are done
abbrev held_once : Movement → ℕ → List ℕ → List Bool
held_once movement steps sections =
    let line = after_steps (new_line new_cells) (take steps (steps_of movement)) in
    map (holds (blocks line) (train_of line 101)) sections

-- with its front in the far road and its rear in its own; and after the first follow
abbrev held_on_its_way : ℕ → List (List Bool)
held_on_its_way s =
    held_once (whole_length s) 14
    (road_of s 2 ∷ 1 ∷ 2 ∷ road_of (far s) 1 ∷ road_of s 1 ∷ road_of (far s) 2 ∷ [])
    ∷ held_once (whole_length s) 19 (road_of s 2 ∷ block_from 2 s 1 ∷ []) ∷ []

abbrev held_from_rear_to_front : List (List Bool)
held_from_rear_to_front =
    (true ∷ true ∷ true ∷ true ∷ false ∷ false ∷ []) ∷ (false ∷ true ∷ []) ∷ []

-- A train over two blocks and both its roads holds every section from rear to front, and no other road.
abbrev pub HeldFromRearToFront : Type 0
HeldFromRearToFront =
    map held_on_its_way (1 ∷ 2 ∷ []) ≡ held_from_rear_to_front ∷ held_from_rear_to_front ∷ []
