-- What is promised of a line, over every lamps' meaning, every track's mark, and every list of calls.
use Rattle.std.specs.Prelude.{◌≡◌, ℕ, zero, suc, ◌+◌, ◌*◌, ◌<◌, ◌≤◌, Bool, true, false, not, ◌&&◌, ◌||◌, ◌⊎◌, List}
use Rattle.std.specs.Prelude.{[], ◌∷◌, ◌++◌, map, length, is_some, Some, None, Option, ◌==◌, ◌≢◌, slice_index_or}
use Rattle.rules.specs.Aspects.{aspect_number}
use Rattle.rules.specs.Calls.{Call, lay, direction, starter, home, put_on, withdraw, advance, follow, fail, mend}
use Rattle.rules.specs.Calls.{close, hand_in, ask_signal, ask_name, paint, rows, verdict, line_after}
use Rattle.rules.specs.Calls.{alike, reversed, no_train, some_station, train_index, train_of, front_moved}
use Rattle.rules.specs.Detection.{new_cells, cell_of, track_verdict}
use Rattle.rules.specs.LineRuns.{turned_down, signal, answer_to, after_all, answers}
use Rattle.rules.specs.Lines.{Line, new_line, bare, blocks, roads, levers_at, sends, clear, closed_at}
use Rattle.rules.specs.Lines.{section_of, holds, in_use, wholly_in}
use Rattle.rules.specs.Panels.{panel, lock_lamp}
use Rattle.rules.specs.Signals.{Shows}
use Rattle.rules.specs.Stations.{station_of, road_section, other_end}
use Rattle.rules.specs.Table.{row_number, within}
use Rattle.rules.specs.TrackRuns.{Lawful}
use Rattle.rules.specs.declared.aspect.Aspect.{Aspect}
use Rattle.rules.specs.declared.detection.Cell.{Cell}
use Rattle.rules.specs.declared.detection.TrackCall.{TrackCall}
use Rattle.rules.specs.declared.detection.TrackCall.TheVariants.{Enter, Leave, Fail, Mend}
use Rattle.rules.specs.declared.line.Station.{Station}
use Rattle.rules.specs.declared.line.Station.TheVariants.{EndA, EndB}
use Rattle.rules.specs.declared.line.Train.{Train}
use Rattle.rules.specs.declared.refusal.Refusal.{Refusal}

-- Lamps show stop exactly where nothing is clear.
abbrev pub LawfulLamps : Shows → Type 0
LawfulLamps shows = (r m : ℕ) → (aspect_number (shows r m) == 0) ≡ (r == 0)

-- What holds of the line after every list of calls on one that was new, whatever lawful lamps and track it has and
-- whatever the track's 24 cells were.
abbrev pub OverEveryHistory : (Shows → (ℕ → ℕ) → Line → Type 0) → Type 0
OverEveryHistory Holds =
    (shows : Shows) → LawfulLamps shows → (mark : ℕ → ℕ) → Lawful mark
    → (cells : List Cell) → length cells ≡ 24 → (calls : List Call)
    → Holds shows mark (after_all shows mark (new_line cells) calls)

-- the trains in the order of putting on, counted from 0
abbrev pub train_at : Line → ℕ → Train
train_at line i = slice_index_or line.trains i no_train

-- ## Only the rows of the table answer

-- the rows that each call can meet, by number and from the top
abbrev pub row_list : Call → List ℕ
row_list (lay laying plan) = 2 ∷ 3 ∷ []
row_list (direction n send) = 1 ∷ 4 ∷ 10 ∷ 11 ∷ 13 ∷ 14 ∷ []
row_list (starter n road) = 1 ∷ 4 ∷ 6 ∷ 10 ∷ 12 ∷ 15 ∷ []
row_list (home n road) = 1 ∷ 4 ∷ 6 ∷ 10 ∷ 12 ∷ 15 ∷ []
row_list (put_on number axles n road) = 1 ∷ 4 ∷ 6 ∷ 7 ∷ 8 ∷ 16 ∷ []
row_list (withdraw number) = 1 ∷ 9 ∷ 20 ∷ []
row_list (advance number) = 1 ∷ 9 ∷ 17 ∷ 18 ∷ []
row_list (follow number) = 1 ∷ 9 ∷ 19 ∷ []
row_list (fail s) = 1 ∷ 5 ∷ 22 ∷ []
row_list (mend s) = 1 ∷ 5 ∷ 22 ∷ []
row_list (close block) = 1 ∷ 5 ∷ 16 ∷ []
row_list (hand_in number block) = 1 ∷ 5 ∷ 21 ∷ []
row_list (ask_signal n place) = 1 ∷ 4 ∷ 5 ∷ []
row_list (ask_name name) = 1 ∷ 5 ∷ []
row_list (paint bytes) = 1 ∷ 23 ∷ []

abbrev pub listed : ℕ → List ℕ → Bool
listed n [] = false
listed n (m ∷ ms) = n == m || listed n ms

abbrev pub RowsAsListed : Type 0
RowsAsListed =
    (shows : Shows) (line : Line) (c : Call) → map (λ row. row_number row.0) (rows shows line c) ≡ row_list c

-- A call turned down is so by a row of its own list, and leaves the line and its track untouched.
abbrev pub TurnedDownUntouched : Type 0
TurnedDownUntouched =
    (shows : Shows) (mark : ℕ → ℕ) (line : Line) (c : Call) (refusal : Refusal)
    → answer_to shows line c ≡ turned_down refusal
    → (listed (row_number refusal) (row_list c) ≡ true) × (line_after shows mark line c ≡ line)

-- ## One way

-- After every list of calls on a line that was new, over whatever track, the stations do not both send.
abbrev pub NeverBothSend : Type 0
NeverBothSend =
    (shows : Shows) (mark : ℕ → ℕ) (cells : List Cell) (calls : List Call)
    → (sends (after_all shows mark (new_line cells) calls) EndA
    && sends (after_all shows mark (new_line cells) calls) EndB)
    ≡ false

-- A signal whose answer shows proceed faces trains from a station that sends.
abbrev pub ProceedsForTheSender : Shows → Line → Type 0
ProceedsForTheSender shows line =
    (n place count : ℕ) (station : Station) (aspect : Aspect)
    → station_of n ≡ Some station → answer_to shows line (ask_signal n place) ≡ signal aspect count
    → (aspect_number aspect == 0) ≡ false → sends line station ≡ true

abbrev pub ProceedFacesTheSender : Type 0
ProceedFacesTheSender =
    (shows : Shows) → LawfulLamps shows → (line : Line) (n place count : ℕ) (station : Station) (aspect : Aspect)
    → station_of n ≡ Some station → answer_to shows line (ask_signal n place) ≡ signal aspect count
    → (aspect_number aspect == 0) ≡ false → sends line station ≡ true

-- While a train holds a block, every direction call is turned down.
abbrev pub LockedUnderATrain : Shows → (ℕ → ℕ) → Line → Type 0
LockedUnderATrain shows mark line =
    (i block : ℕ) → i < length line.trains → within 1 (blocks line) block ≡ true
    → holds (blocks line) (train_at line i) block ≡ true
    → (n : ℕ) (send : Bool) → is_some (verdict shows line (direction n send)) ≡ true

abbrev pub DirectionLocked : Type 0
DirectionLocked =
    (shows : Shows) → LawfulLamps shows → (mark : ℕ → ℕ) → Lawful mark
    → (cells : List Cell) → length cells ≡ 24 → (calls : List Call)
    → let line = after_all shows mark (new_line cells) calls in
    (i block : ℕ) → i < length line.trains → within 1 (blocks line) block ≡ true
    → holds (blocks line) (slice_index_or line.trains i no_train) block ≡ true
    → (n : ℕ) (send : Bool) → is_some (verdict shows line (direction n send)) ≡ true

-- ## Apart

-- No two trains hold one section, and none holds a closed one.
pub record TrainsApart (line : Line) : Type 0 where
  pub no_two : (i j s : ℕ) → i < j → j < length line.trains
      → holds (blocks line) (slice_index_or line.trains i no_train) s ≡ true
      → holds (blocks line) (slice_index_or line.trains j no_train) s ≢ true
  pub none_closed : (i s : ℕ) → i < length line.trains
      → holds (blocks line) (slice_index_or line.trains i no_train) s ≡ true → closed_at line s ≢ true

-- the section into which a call sets or moves a front
abbrev pub front_comes_into : Line → Call → Option ℕ
front_comes_into line (lay laying plan) = None
front_comes_into line (direction n send) = None
front_comes_into line (starter n road) = None
front_comes_into line (home n road) = None
front_comes_into line (put_on number axles n road) = Some (road_section (some_station n) road)
front_comes_into line (withdraw number) = None
front_comes_into line (advance number) =
    Some (section_of (blocks line) (front_moved line (train_of line number)) ((train_of line number).front + 1))
front_comes_into line (follow number) = None
front_comes_into line (fail s) = None
front_comes_into line (mend s) = None
front_comes_into line (close block) = None
front_comes_into line (hand_in number block) = None
front_comes_into line (ask_signal n place) = None
front_comes_into line (ask_name name) = None
front_comes_into line (paint bytes) = None

-- the section in which a train's front stands
abbrev pub front_section : Line → Train → ℕ
front_section line train = section_of (blocks line) train train.front

-- A train as it stands after a call: one of its number was there before with its front in the same section, or the
-- section in which its front now stands was clear before.
abbrev pub FrontIntoClear : Line → Line → Train → Type 0
FrontIntoClear line then train =
    ((is_some (train_index line train.number) ≡ true)
    × (front_section line (train_of line train.number) ≡ front_section then train))
    ⊎ (clear line (front_section then train) ≡ true)

-- Whatever call comes next, a front that it sets or moves comes into a section that was clear before it.
abbrev pub FrontsIntoClear : Shows → (ℕ → ℕ) → Line → Type 0
FrontsIntoClear shows mark line =
    (c : Call) (j : ℕ) → let then = line_after shows mark line c in
    j < length then.trains → FrontIntoClear line then (train_at then j)

-- Over every history: trains apart, and whatever call comes next, a front that it sets or moves comes into a section
-- that was clear before it.
abbrev pub Apart : Type 0
Apart =
    (shows : Shows) → LawfulLamps shows → (mark : ℕ → ℕ) → Lawful mark
    → (cells : List Cell) → length cells ≡ 24 → (calls : List Call)
    → let line = after_all shows mark (new_line cells) calls in
    TrainsApart line
    × ((c : Call) (s : ℕ) → verdict shows line c ≡ None → front_comes_into line c ≡ Some s → clear line s ≡ true)

-- The same of every train as it stands after any call, wherever its front then is.
abbrev pub FrontsComeIntoClear : Type 0
FrontsComeIntoClear = OverEveryHistory FrontsIntoClear

-- ## No surprise from the track

-- what a call that is carried out tells the track
abbrev pub tells : Line → Call → Option TrackCall
tells line (lay laying plan) = None
tells line (direction n send) = None
tells line (starter n road) = None
tells line (home n road) = None
tells line (put_on number axles n road) = Some (Enter (road_section (some_station n) road) axles)
tells line (withdraw number) =
    Some (Leave (section_of (blocks line) (train_of line number) 0) (train_of line number).axles)
tells line (advance number) =
    Some (Enter (section_of (blocks line) (front_moved line (train_of line number)) ((train_of line number).front + 1))
    (train_of line number).axles)
tells line (follow number) =
    Some (Leave (section_of (blocks line) (train_of line number) (train_of line number).rear)
    (train_of line number).axles)
tells line (fail s) = Some (Fail s)
tells line (mend s) = Some (Mend s)
tells line (close block) = None
tells line (hand_in number block) = None
tells line (ask_signal n place) = None
tells line (ask_name name) = None
tells line (paint bytes) = None

-- Each time a call that is carried out tells the track, the track takes it.
abbrev pub TrackTakesAll : Shows → (ℕ → ℕ) → Line → Type 0
TrackTakesAll shows mark line =
    (c : Call) (told : TrackCall) → verdict shows line c ≡ None → tells line c ≡ Some told
    → track_verdict mark line.cells told ≡ None

abbrev pub NoSurprise : Type 0
NoSurprise =
    (shows : Shows) → LawfulLamps shows → (mark : ℕ → ℕ) → Lawful mark
    → (cells : List Cell) → length cells ≡ 24 → (calls : List Call)
    → let line = after_all shows mark (new_line cells) calls in
    (c : Call) (told : TrackCall) → verdict shows line c ≡ None → tells line c ≡ Some told
    → track_verdict mark line.cells told ≡ None

-- ## Room

-- Never more trains than sections in use, and never more than 24.
abbrev pub RoomForTrains : Line → Type 0
RoomForTrains line =
    (length line.trains ≤ blocks line + roads line EndA + roads line EndB) × (length line.trains ≤ 24)

abbrev pub Room : Type 0
Room =
    (shows : Shows) → LawfulLamps shows → (mark : ℕ → ℕ) → Lawful mark
    → (cells : List Cell) → length cells ≡ 24 → (calls : List Call)
    → let line = after_all shows mark (new_line cells) calls in
    (length line.trains ≤ blocks line + roads line EndA + roads line EndB) × (length line.trains ≤ 24)

-- ## Lever frame

-- What the frame shows of a station: whether it sends, whether its starter is reversed, whether its lock lamp is lit.
abbrev pub frame_at : Shows → Line → Station → List Bool
frame_at shows line station =
    sends line station ∷ reversed (levers_at line station).starter ∷ (lock_lamp shows line station == 1) ∷ []

-- the only rows that may show, A before B: both receive; A sends; B sends
abbrev pub frame_rows : List (List Bool)
frame_rows =
    (false ∷ false ∷ false ∷ false ∷ false ∷ false ∷ [])
    ∷ (false ∷ false ∷ false ∷ false ∷ false ∷ true ∷ [])
    ∷ (false ∷ false ∷ true ∷ false ∷ false ∷ false ∷ [])
    ∷ (false ∷ false ∷ true ∷ false ∷ false ∷ true ∷ [])
    ∷ (true ∷ false ∷ false ∷ false ∷ false ∷ true ∷ [])
    ∷ (true ∷ false ∷ true ∷ false ∷ false ∷ true ∷ [])
    ∷ (true ∷ true ∷ true ∷ false ∷ false ∷ true ∷ [])
    ∷ (false ∷ false ∷ true ∷ true ∷ false ∷ false ∷ [])
    ∷ (false ∷ false ∷ true ∷ true ∷ false ∷ true ∷ [])
    ∷ (false ∷ false ∷ true ∷ true ∷ true ∷ true ∷ [])
    ∷ []

abbrev pub same_row : List Bool → List Bool → Bool
same_row [] [] = true
same_row [] (b ∷ more) = false
same_row (a ∷ rest) [] = false
same_row (a ∷ rest) (b ∷ more) = alike a b && same_row rest more

abbrev pub is_a_row : List Bool → List (List Bool) → Bool
is_a_row frame [] = false
is_a_row frame (row ∷ rest) = same_row frame row || is_a_row frame rest

-- After any list of calls that leaves the line laid, the frame shows one of the ten rows.
abbrev pub OneOfTheRows : Shows → Line → Type 0
OneOfTheRows shows line =
    bare line ≡ false → is_a_row (frame_at shows line EndA ++ frame_at shows line EndB) frame_rows ≡ true

abbrev pub LeverFrame : Type 0
LeverFrame =
    (shows : Shows) → LawfulLamps shows → (mark : ℕ → ℕ) → Lawful mark
    → (cells : List Cell) → length cells ≡ 24 → (calls : List Call)
    → let line = after_all shows mark (new_line cells) calls in
    bare line ≡ false → is_a_row (frame_at shows line EndA ++ frame_at shows line EndB) frame_rows ≡ true

-- ## Same levers, same lamps

-- Two boxes with any two lawful marks, both tracks new, the same lamps' meaning and the same calls: the same answers,
-- the same answer to every question for a signal, and the same panel.
abbrev pub SameLeversSameLamps : Type 0
SameLeversSameLamps =
    (shows : Shows) → LawfulLamps shows → (one two : ℕ → ℕ) → Lawful one → Lawful two → (calls : List Call)
    → let first = after_all shows one (new_line new_cells) calls in
    let second = after_all shows two (new_line new_cells) calls in
    (answers shows one (new_line new_cells) calls ≡ answers shows two (new_line new_cells) calls)
    × ((n place : ℕ) → answer_to shows first (ask_signal n place) ≡ answer_to shows second (ask_signal n place))
    × (panel shows first ≡ panel shows second)

-- ## Gets in

abbrev pub any_block : ℕ → Train → ℕ → Bool
any_block n train zero = false
any_block n train (suc k) = holds n train (suc k) || any_block n train k

-- whether a train holds a block
abbrev pub holds_a_block : Line → Train → Bool
holds_a_block line train = any_block (blocks line) train (blocks line)

-- The foremost train: among those that hold a block, the one whose front is furthest on its way.
pub record Foremost (line : Line) (i : ℕ) : Type 0 where
  pub on_line : i < length line.trains
  pub holds_one : holds_a_block line (train_at line i) ≡ true
  pub furthest : (j : ℕ) → j < length line.trains → holds_a_block line (train_at line j) ≡ true
      → (train_at line j).front ≤ (train_at line i).front

-- Every section in use is in order, and no block is closed.
pub record LineInOrder (line : Line) : Type 0 where
  pub in_order : (s : ℕ) → in_use line s ≡ true → (cell_of line.cells s).failed ≡ false
  pub none_closed : (block : ℕ) → within 1 (blocks line) block ≡ true → closed_at line block ≡ false

-- The receiving station has a clear road, or the train's front stands in one there.
abbrev pub WayIn : Line → Train → Type 0
WayIn line train =
    ((road : ℕ) × (1 ≤ road) × (road ≤ roads line (other_end train.from))
    × (clear line (road_section (other_end train.from) road) ≡ true))
    ⊎ (train.front ≡ blocks line + 1)

-- lever calls, advances and follows
abbrev pub is_move : Call → Bool
is_move (lay laying plan) = false
is_move (direction n send) = true
is_move (starter n road) = true
is_move (home n road) = true
is_move (put_on number axles n road) = false
is_move (withdraw number) = false
is_move (advance number) = true
is_move (follow number) = true
is_move (fail s) = false
is_move (mend s) = false
is_move (close block) = false
is_move (hand_in number block) = false
is_move (ask_signal n place) = false
is_move (ask_name name) = false
is_move (paint bytes) = false

-- each of a list is such a call, and is carried out in its turn
abbrev pub all_carried_out : Shows → (ℕ → ℕ) → Line → List Call → Bool
all_carried_out shows mark line [] = true
all_carried_out shows mark line (c ∷ calls) =
    is_move c && not (is_some (verdict shows line c)) && all_carried_out shows mark (line_after shows mark line c) calls

-- At most so many calls, all carried out, bring the train of a number wholly into a road of a station.
pub record BroughtIn (shows : Shows) (mark : ℕ → ℕ) (line : Line) (number : ℕ) (station : Station)
    (most : ℕ) : Type 0 where
  pub calls : List Call
  pub few : length calls ≤ most
  pub carried_out : all_carried_out shows mark line calls ≡ true
  pub still_known : is_some (train_index (after_all shows mark line calls) number) ≡ true
  pub there : (train_of (after_all shows mark line calls) number).from ≡ station
  pub wholly : wholly_in (train_of (after_all shows mark line calls) number) ≡ true

-- Where a train holds a block there is a foremost one.
abbrev pub SomeForemost : Line → Type 0
SomeForemost line =
    (i : ℕ) → i < length line.trains → holds_a_block line (train_at line i) ≡ true → (f : ℕ) × Foremost line f

-- If the line is in order and a foremost train has a way in, at most 2 × N + 3 lever calls, advances and follows
-- bring it wholly in.
abbrev pub ForemostComesIn : Shows → (ℕ → ℕ) → Line → Type 0
ForemostComesIn shows mark line =
    (f : ℕ) → Foremost line f → LineInOrder line → WayIn line (train_at line f)
    → BroughtIn shows mark line (train_at line f).number (other_end (train_at line f).from) (2 * blocks line + 3)

-- Both, over every history.
abbrev pub GetsIn : Type 0
GetsIn =
    (shows : Shows) → LawfulLamps shows → (mark : ℕ → ℕ) → Lawful mark
    → (cells : List Cell) → length cells ≡ 24 → (calls : List Call)
    → let line = after_all shows mark (new_line cells) calls in
    ((i : ℕ) → i < length line.trains → holds_a_block line (train_at line i) ≡ true → (f : ℕ) × Foremost line f)
    × ((f : ℕ) → Foremost line f → LineInOrder line → WayIn line (train_at line f)
    → BroughtIn shows mark line (train_at line f).number (other_end (train_at line f).from) (2 * blocks line + 3))
