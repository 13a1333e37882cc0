-- No promise is empty: calls that lead to what each promise speaks of, in both directions of travel, worked out by
-- computation. Each stands for trains from station s, which is 1 or 2.
use Rattle.std.specs.Prelude.{◌≡◌, ℕ, zero, suc, ◌+◌, ◌*◌, Bool, true, false, not, ◌&&◌, ◌||◌, List, [], ◌∷◌, ◌++◌}
use Rattle.std.specs.Prelude.{map, length, replicate, is_some, Some, None, Option, ◌==◌, nat_le}
use Rattle.std.specs.List.{range_with_len, list_all}
use Rattle.rules.specs.Aspects.{aspect_number}
use Rattle.rules.specs.Calls.{Call, lay, direction, starter, home, put_on, withdraw, advance, follow, fail, mend}
use Rattle.rules.specs.Calls.{close, hand_in, ask_signal, ask_name, paint, verdict, line_after, some_station}
use Rattle.rules.specs.Calls.{train_index, train_of}
use Rattle.rules.specs.Detection.{new_cells, cell_of, track_verdict}
use Rattle.rules.specs.LineRuns.{Answer, done, turned_down, signal, section, slip, painted, answer_to, after_all}
use Rattle.rules.specs.Lines.{Line, new_line, roads, sends, clear, closed_at, wholly_in}
use Rattle.rules.specs.Panels.{panel}
use Rattle.rules.specs.Table.{row_number}
use Rattle.rules.specs.Stations.{station_number, road_section}
use Rattle.rules.specs.declared.detection.TrackCall.{TrackCall}
use Rattle.rules.specs.declared.line.Station.{Station}
use Rattle.rules.specs.declared.line.Station.TheVariants.{EndA, EndB}
use Rattle.rules.specs.declared.line.Train.{Train}
use Rattle.rules.specs.declared.refusal.Refusal.{Refusal}
use Rattle.rules.specs.declared.refusal.Refusal.TheVariants.{ThereAlready, FarEndSends, LineNotClear}
use Rattle.promises.specs.Movements.{Step, call, byte, cab, Sight, answered, shown, aspect}
use Rattle.promises.specs.Movements.{three, circuit, laid, far, block_from, worked_everywhere}
use Rattle.promises.specs.Promises.{row_list, front_section, frame_at, frame_rows, train_at, holds_a_block}
use Rattle.promises.specs.Promises.{all_carried_out, tells}

-- the line after calls on a new one, with three lamps and track circuits
abbrev led_to : List Call → Line
led_to calls = after_all three circuit (new_line new_cells) calls

abbrev from_both : (ℕ → Bool) → Bool
from_both test = test 1 && test 2

abbrev any : {X : Type 0} → (X → Bool) → List X → Bool
any test xs = not (list_all (λ x. not (test x)) xs)

abbrev passes : Line → Call → Bool
passes line c = not (is_some (verdict three line c))

-- a train moves on by so many whole places
abbrev drive : ℕ → ℕ → List Call
drive number zero = []
drive number (suc places) = advance number ∷ follow number ∷ drive number places

-- station s sends, with its starter for road 1
abbrev set_off : ℕ → ℕ → List Call
set_off n s = laid n 2 2 1 ∷ direction s true ∷ starter s 1 ∷ []

-- Two trains away one behind the other, a closed block ahead of them: the first may still go on, by a block.
abbrev two_away : ℕ → List Call
two_away s =
    set_off 4 s ++ (put_on 101 8 s 1 ∷ drive 101 2
    ++ (put_on 102 400 s 1 ∷ advance 102 ∷ close (block_from 4 s 4) ∷ []))

abbrev trains_apart : ℕ → Bool
trains_apart s =
    let line = led_to (two_away s) in
    let then = line_after three circuit line (advance 101) in
    holds_a_block line (train_at line 0) && holds_a_block line (train_at line 1)
    && closed_at line (block_from 4 s 4) && passes line (advance 101)
    && front_section line (train_of line 101) == block_from 4 s 2
    && front_section then (train_of then 101) == block_from 4 s 3 && not (passes then (advance 101))

abbrev one_sends : ℕ → Bool
one_sends s = sends (led_to (set_off 1 s)) (some_station s)

-- A train holds a block, and the rows that answer the four direction calls.
abbrev direction_verdicts : ℕ → List (Option Refusal)
direction_verdicts s =
    let line = led_to (two_away s ++ (follow 102 ∷ starter s 0 ∷ [])) in
    map (verdict three line) (direction s true ∷ direction s false ∷ direction (far s) true ∷ direction (far s) false
    ∷ [])

abbrev locking_rows : List (Option Refusal)
locking_rows = Some ThereAlready ∷ Some LineNotClear ∷ Some FarEndSends ∷ Some ThereAlready ∷ []

-- Starter, block signal and home show proceed.
abbrev proceed_answer : Answer → Bool
proceed_answer done = false
proceed_answer (turned_down refusal) = false
proceed_answer (signal shown_aspect count) = not (aspect_number shown_aspect == 0)
proceed_answer (section s) = false
proceed_answer (slip number block) = false
proceed_answer (painted bytes) = false

abbrev proceeds : ℕ → Bool
proceeds s =
    let line = led_to (set_off 2 s ++ (home (far s) 2 ∷ [])) in
    list_all (λ distance. proceed_answer (answer_to three line (ask_signal s (block_from 2 s distance))))
    (1 ∷ 2 ∷ 3 ∷ [])

-- Each call that tells the track something is carried out, and the track takes it.
abbrev taken_by_the_track : Line → Option TrackCall → Bool
taken_by_the_track line None = false
taken_by_the_track line (Some told) = not (is_some (track_verdict circuit line.cells told))

abbrev takes_all : Line → List Call → Bool
takes_all line [] = true
takes_all line (c ∷ calls) =
    passes line c && taken_by_the_track line (tells line c) && takes_all (line_after three circuit line c) calls

abbrev track_told : ℕ → Bool
track_told s =
    takes_all (led_to (set_off 1 s)) (put_on 7 8 (far s) 1 ∷ fail 1 ∷ mend 1 ∷ put_on 101 8 s 1 ∷ advance 101
    ∷ follow 101 ∷ withdraw 7 ∷ [])

-- A train in each of the 24 sections: 16 in the blocks, then one in each road.
abbrev queued : ℕ → ℕ → List Call
queued s zero = []
queued s (suc k) = put_on (suc k) 2 s 1 ∷ drive (suc k) (suc k) ++ queued s k

abbrev put_in_roads : ℕ → ℕ → List Call
put_in_roads base s = map (λ road. put_on (base + road) 400 s road) (range_with_len 1 4)

abbrev full : ℕ → Bool
full s =
    let line = led_to (laid 16 4 4 1 ∷ direction s true ∷ starter s 1 ∷ queued s 16 ++ (put_in_roads 20 1
    ++ put_in_roads 30 2)) in
    (length line.trains == 24)

-- For each row of the lever frame, in their order, calls that show it.
abbrev frame_calls : List (List Call)
frame_calls =
    []
    ∷ (home 2 1 ∷ [])
    ∷ (home 1 1 ∷ [])
    ∷ (home 1 1 ∷ home 2 1 ∷ [])
    ∷ (direction 1 true ∷ [])
    ∷ (direction 1 true ∷ fail 1 ∷ [])
    ∷ (direction 1 true ∷ starter 1 1 ∷ [])
    ∷ (direction 2 true ∷ [])
    ∷ (direction 2 true ∷ fail 1 ∷ [])
    ∷ (direction 2 true ∷ starter 2 1 ∷ [])
    ∷ []

abbrev frame_shown : List Call → List Bool
frame_shown calls =
    let line = led_to (laid 3 2 2 1 ∷ calls) in
    frame_at three line EndA ++ frame_at three line EndB

-- Track circuits and an axle counter: a train away, a section failed under it, one mended, a call turned down.
abbrev mixed : ℕ → List Call
mixed s =
    set_off 2 s ++ (put_on 101 8 s 1 ∷ advance 101 ∷ fail (block_from 2 s 1) ∷ advance 101 ∷ fail (block_from 2 s 2)
    ∷ mend (block_from 2 s 2) ∷ close 1 ∷ [])

abbrev over : (ℕ → ℕ) → ℕ → Line
over mark s = after_all three mark (new_line new_cells) (mixed s)

abbrev counter : ℕ → ℕ
counter axles = axles

abbrev held_there : (ℕ → ℕ) → ℕ → ℕ
held_there mark s = (cell_of (over mark s).cells (block_from 2 s 1)).held

abbrev same_numbers : List ℕ → List ℕ → Bool
same_numbers [] [] = true
same_numbers [] (b ∷ more) = false
same_numbers (a ∷ rest) [] = false
same_numbers (a ∷ rest) (b ∷ more) = a == b && same_numbers rest more

abbrev tracks_differ : ℕ → Bool
tracks_differ s =
    (held_there circuit s == 1) && held_there counter s == 8
    && same_numbers (panel three (over circuit s)) (panel three (over counter s))

-- Of the trains that hold a block, none has its front further on; all is in order and open; the far station has a
-- clear road.
abbrev is_foremost : Line → Train → Bool
is_foremost line train =
    holds_a_block line train
    && list_all (λ other. not (holds_a_block line other) || nat_le other.front train.front) line.trains

abbrev is_in_order : Line → Bool
is_in_order line = list_all (λ cell. not cell.failed) line.cells && list_all not line.closed

abbrev has_clear_road : Line → Station → Bool
has_clear_road line station =
    any (λ road. clear line (road_section station road)) (range_with_len 1 (roads line station))

-- Of two trains away the first is the foremost.
abbrev foremost_of_two : ℕ → Bool
foremost_of_two s =
    let line = led_to (two_away s) in
    is_foremost line (train_of line 101) && not (is_foremost line (train_of line 102))

-- On a line of n blocks, the foremost train has its rear in its road still, and the far home is set for a taken road.
abbrev on_its_way : ℕ → ℕ → List Call
on_its_way n s =
    set_off n s ++ (put_on 7 8 (far s) 1 ∷ put_on 101 8 s 1 ∷ put_on 102 8 s 2 ∷ advance 101 ∷ home (far s) 1 ∷ [])

abbrev way_in : ℕ → ℕ → List Call
way_in n s = home (far s) 0 ∷ home (far s) 2 ∷ replicate n (advance 101) ++ replicate (n + 1) (follow 101)

-- It comes wholly in, by exactly as many calls as the promise allows.
abbrev comes_in : ℕ → ℕ → Bool
comes_in n s =
    let line = led_to (on_its_way n s) in
    let then = after_all three circuit line (way_in n s) in
    is_foremost line (train_of line 101) && is_in_order line && has_clear_road line (some_station (far s))
    && all_carried_out three circuit line (way_in n s) && length (way_in n s) == 2 * n + 3
    && is_some (train_index then 101) && wholly_in (train_of then 101)
    && station_number (train_of then 101).from == far s

-- Among the movements worked through, each call is turned down by each row of its list, and carried out.
abbrev kind : Call → ℕ
kind (lay laying plan) = 1
kind (direction n send) = 2
kind (starter n road) = 3
kind (home n road) = 4
kind (put_on number axles n road) = 5
kind (withdraw number) = 6
kind (advance number) = 7
kind (follow number) = 8
kind (fail s) = 9
kind (mend s) = 10
kind (close block) = 11
kind (hand_in number block) = 12
kind (ask_signal n place) = 13
kind (ask_name name) = 14
kind (paint bytes) = 15

abbrev one_of_each : List Call
one_of_each =
    laid 1 1 1 1 ∷ direction 1 true ∷ starter 1 1 ∷ home 1 1 ∷ put_on 1 8 1 1 ∷ withdraw 1 ∷ advance 1 ∷ follow 1
    ∷ fail 1 ∷ mend 1 ∷ close 1 ∷ hand_in 1 1 ∷ ask_signal 1 1 ∷ ask_name 1 ∷ paint 66 ∷ []

-- the row of an answer, 0 where the call was carried out
abbrev row_answered : Answer → ℕ
row_answered done = 0
row_answered (turned_down refusal) = row_number refusal
row_answered (signal shown_aspect count) = 0
row_answered (section s) = 0
row_answered (slip number block) = 0
row_answered (painted bytes) = 0

abbrev shows_row : ℕ → Sight → Bool
shows_row row (answered answer) = row_answered answer == row
shows_row row (shown value) = false
shows_row row (aspect shown_aspect) = false

abbrev of_kind : Call → Step → Bool
of_kind c (call d) = kind c == kind d
of_kind c (byte k) = false
of_kind c (cab r m) = false

abbrev row_met : Call → ℕ → Bool
row_met c row =
    any (λ work. any (λ pair. of_kind c pair.0 && shows_row row pair.1) work.1) worked_everywhere

abbrev rows_met : Call → Bool
rows_met c = row_met c 0 && list_all (row_met c) (row_list c)

pub record NoPromiseIsEmpty : Type 0 where
  pub apart : from_both trains_apart ≡ true
  pub one_way : from_both one_sends ≡ true
  pub locked : map direction_verdicts (1 ∷ 2 ∷ []) ≡ locking_rows ∷ locking_rows ∷ []
  pub proceed : from_both proceeds ≡ true
  pub told : from_both track_told ≡ true
  pub room : from_both full ≡ true
  pub every_row : map frame_shown frame_calls ≡ frame_rows
  pub differ : from_both tracks_differ ≡ true
  pub foremost : from_both foremost_of_two ≡ true
  pub gets_in : (from_both (comes_in 1) && from_both (comes_in 16)) ≡ true
  pub rows : list_all rows_met one_of_each ≡ true
