-- The meaning of a track, and what each of its calls answers and leaves.
use Rattle.std.specs.Prelude.{◌≡◌, ℕ, ◌+◌, ◌-◌, Bool, true, false, cond, not, List, [], ◌∷◌, ◌++◌, replicate, Some}
use Rattle.std.specs.Prelude.{None, Ok, Err, codes, decimal, Option, Result, ◌==◌, nat_lt, slice_index_or, slice_set}
use Rattle.rules.specs.Table.{Row, row_number, row_word, InTableOrder, topmost, answer, outcome, after, within}
use Rattle.rules.specs.declared.refusal.Refusal.{Refusal}
use Rattle.rules.specs.declared.refusal.Refusal.TheVariants.{NoSection, BadCard, NotClear, SoAlready, WrongMark}
use Rattle.rules.specs.declared.detection.Cell.{Cell}
use Rattle.rules.specs.declared.detection.SectionState.{SectionState}
use Rattle.rules.specs.declared.detection.SectionState.TheVariants.{Vacant, Occupied, OutOfOrder}
use Rattle.rules.specs.declared.detection.TrackCall.{TrackCall}
use Rattle.rules.specs.declared.detection.TrackCall.TheVariants.{State, Enter, Leave, Fail, Mend}
use Rattle.rules.specs.declared.detection.TrackAnswer.{TrackAnswer}
use Rattle.rules.specs.declared.detection.TrackAnswer.TheVariants.{Reads, Done, TurnedDown}

abbrev pub state_number : SectionState → ℕ
state_number Vacant = 0
state_number Occupied = 1
state_number OutOfOrder = 2

abbrev pub state_word : SectionState → List ℕ
state_word Vacant = codes "vacant"
state_word Occupied = codes "occupied"
state_word OutOfOrder = codes "out of order"

-- A section with nothing held and in order.
abbrev pub new_cell : Cell
new_cell = record { held = 0; failed = false }

-- A track has 24 sections, the first of them numbered 1.
unfoldable pub new_cells : List Cell
new_cells = replicate 24 new_cell

abbrev pub cell_of : List Cell → ℕ → Cell
cell_of cells section = slice_index_or cells (section - 1) new_cell

abbrev pub with_cell : List Cell → ℕ → Cell → List Cell
with_cell cells section cell = slice_set cells (section - 1) cell

-- A section out of order says so, whatever it holds.
abbrev pub state_of : Cell → SectionState
state_of cell = cond cell.failed OutOfOrder (cond (nat_lt 0 cell.held) Occupied Vacant)

-- The cell with the number held changed.
abbrev pub with_held : Cell → ℕ → Cell
with_held cell n = record { held = n; failed = cell.failed }

-- The cell put out of order or back in order: the number held stays.
abbrev pub with_failed : Cell → Bool → Cell
with_failed cell failed = record { held = cell.held; failed = failed }

abbrev pub legal_section : ℕ → Bool
legal_section section = within 1 24 section

abbrev pub legal_axles : ℕ → Bool
legal_axles axles = within 2 400 axles

-- the rows that a call of a track can meet
abbrev pub no_section : ℕ → Row
no_section section = (NoSection, not (legal_section section))

abbrev pub bad_axles : ℕ → Row
bad_axles axles = (BadCard, not (legal_axles axles))

-- a section is entered only at state 0
abbrev pub not_vacant : SectionState → Row
not_vacant state = (NotClear, not (state_number state == 0))

-- a train leaves a section only with the mark that is held there
abbrev pub wrong_mark : ℕ → ℕ → Row
wrong_mark held mark = (WrongMark, not (held == mark))

-- failing wants a section in order, mending one out of order
abbrev pub so_already : Bool → Bool → Row
so_already failed wanted = (SoAlready, cond wanted failed (not failed))

-- The rows of each call, from the top.
abbrev pub track_rows : (ℕ → ℕ) → List Cell → TrackCall → List Row
track_rows mark cells (State section) = no_section section ∷ []
track_rows mark cells (Enter section axles) =
    no_section section ∷ bad_axles axles ∷ not_vacant (state_of (cell_of cells section)) ∷ []
track_rows mark cells (Leave section axles) =
    no_section section ∷ bad_axles axles ∷ wrong_mark (cell_of cells section).held (mark axles) ∷ []
track_rows mark cells (Fail section) = no_section section ∷ so_already (cell_of cells section).failed true ∷ []
track_rows mark cells (Mend section) = no_section section ∷ so_already (cell_of cells section).failed false ∷ []

abbrev pub TrackRowsInTableOrder : Type 0
TrackRowsInTableOrder =
    (mark : ℕ → ℕ) (cells : List Cell) (call : TrackCall) → InTableOrder (track_rows mark cells call)

-- The cells once a call is carried out: no cell changes but that of its section.
abbrev pub track_effect : (ℕ → ℕ) → List Cell → TrackCall → List Cell
track_effect mark cells (State section) = cells
track_effect mark cells (Enter section axles) =
    with_cell cells section (with_held (cell_of cells section) ((cell_of cells section).held + mark axles))
track_effect mark cells (Leave section axles) =
    with_cell cells section (with_held (cell_of cells section) ((cell_of cells section).held - mark axles))
track_effect mark cells (Fail section) = with_cell cells section (with_failed (cell_of cells section) true)
track_effect mark cells (Mend section) = with_cell cells section (with_failed (cell_of cells section) false)

-- What a call that is carried out answers.
abbrev pub track_result : List Cell → TrackCall → TrackAnswer
track_result cells (State section) = Reads (state_of (cell_of cells section))
track_result cells (Enter section axles) = Done
track_result cells (Leave section axles) = Done
track_result cells (Fail section) = Done
track_result cells (Mend section) = Done

-- The row that turns a call down, if one does.
abbrev pub track_verdict : (ℕ → ℕ) → List Cell → TrackCall → Option Refusal
track_verdict mark cells call = topmost (track_rows mark cells call)

abbrev pub track_after : (ℕ → ℕ) → List Cell → TrackCall → List Cell
track_after mark cells call = after (track_verdict mark cells call) cells (track_effect mark cells call)

abbrev pub state_answer : (ℕ → ℕ) → List Cell → ℕ → Result SectionState Refusal
state_answer mark cells section = answer (track_verdict mark cells (State section)) (state_of (cell_of cells section))

-- A call of a track ends as the rules say: what it answers, and the cells it leaves.
pub record Ends (mark : ℕ → ℕ) (old : List Cell) (call : TrackCall)
    (result : Result (Unit {0}) Refusal) (new : List Cell) : Type 0 where
  pub answer : result ≡ outcome (track_verdict mark old call)
  pub after : new ≡ track_after mark old call

-- How a call is answered as one of a list: its result, or turned down.
abbrev pub as_answer : Option Refusal → TrackAnswer → TrackAnswer
as_answer None result = result
as_answer (Some refusal) result = TurnedDown refusal

abbrev pub track_answer : (ℕ → ℕ) → List Cell → TrackCall → TrackAnswer
track_answer mark cells call = as_answer (track_verdict mark cells call) (track_result cells call)

-- what one call of a track returns, as such an answer
abbrev pub done_or : Result (Unit {0}) Refusal → TrackAnswer
done_or (Ok done) = Done
done_or (Err refusal) = TurnedDown refusal

abbrev pub reads_or : Result SectionState Refusal → TrackAnswer
reads_or (Ok state) = Reads state
reads_or (Err refusal) = TurnedDown refusal

-- The cases of an answer by number, each with the number of what it holds, and as people read it.
abbrev pub answer_number : TrackAnswer → ℕ
answer_number (Reads state) = 0
answer_number Done = 1
answer_number (TurnedDown refusal) = 2

abbrev pub answer_value : TrackAnswer → Option ℕ
answer_value (Reads state) = Some (state_number state)
answer_value Done = None
answer_value (TurnedDown refusal) = Some (row_number refusal)

abbrev pub answer_text : TrackAnswer → List ℕ
answer_text (Reads state) = codes "reads " ++ state_word state
answer_text Done = codes "ok"
answer_text (TurnedDown refusal) = codes "no " ++ (decimal (row_number refusal) ++ (codes ", " ++ row_word refusal))
