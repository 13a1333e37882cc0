-- Whole runs of a track: any list of calls with its answers, and what a section then reads.
use Rattle.std.specs.Prelude.{◌≡◌, ℕ, ◌≤◌, Bool, true, false, cond, ◌&&◌, List, [], ◌∷◌, ◌++◌, is_some, Some, None}
use Rattle.std.specs.Prelude.{Option, ◌==◌}
use Rattle.rules.specs.Detection.{new_cells, cell_of, state_of, legal_section, legal_axles, track_after, track_answer}
use Rattle.rules.specs.declared.detection.Cell.{Cell}
use Rattle.rules.specs.declared.detection.SectionState.{SectionState}
use Rattle.rules.specs.declared.detection.SectionState.TheVariants.{Vacant, Occupied, OutOfOrder}
use Rattle.rules.specs.declared.detection.TrackCall.{TrackCall}
use Rattle.rules.specs.declared.detection.TrackCall.TheVariants.{State, Enter, Leave, Fail, Mend}
use Rattle.rules.specs.declared.detection.TrackAnswer.{TrackAnswer}
use Rattle.rules.specs.declared.detection.TrackAnswer.TheVariants.{Reads, Done, TurnedDown}

-- the cells after a list of calls
abbrev pub run_after : (ℕ → ℕ) → List Cell → List TrackCall → List Cell
run_after mark cells [] = cells
run_after mark cells (call ∷ calls) = run_after mark (track_after mark cells call) calls

-- the calls, each with its answer
abbrev pub transcript : (ℕ → ℕ) → List Cell → List TrackCall → List (TrackCall × TrackAnswer)
transcript mark cells [] = []
transcript mark cells (call ∷ calls) =
    (call, track_answer mark cells call) ∷ transcript mark (track_after mark cells call) calls

-- What an onlooker knows of a section who sees calls and answers and no cell: the axles of the train that entered it
-- and has not left, if there is one, and whether it failed and was not mended.
pub record Seen : Type 0 where
  pub inside : Option ℕ
  pub failed : Bool

abbrev pub nothing_seen : Seen
nothing_seen = record { inside = None; failed = false }

abbrev pub carried_out : TrackAnswer → Bool
carried_out (Reads state) = false
carried_out Done = true
carried_out (TurnedDown refusal) = false

-- one call and its answer, seen at section s
abbrev pub see : ℕ → Seen → TrackCall → TrackAnswer → Seen
see s seen (State section) answer = seen
see s seen (Enter section axles) answer =
    cond (carried_out answer && section == s) (record { inside = Some axles; failed = seen.failed }) seen
see s seen (Leave section axles) answer =
    cond (carried_out answer && section == s) (record { inside = None; failed = seen.failed }) seen
see s seen (Fail section) answer =
    cond (carried_out answer && section == s) (record { inside = seen.inside; failed = true }) seen
see s seen (Mend section) answer =
    cond (carried_out answer && section == s) (record { inside = seen.inside; failed = false }) seen

abbrev pub see_all : ℕ → Seen → List (TrackCall × TrackAnswer) → Seen
see_all s seen [] = seen
see_all s seen (step ∷ steps) = see_all s (see s seen step.0 step.1) steps

-- What a section must read: out of order from a failing until a mending, whatever trains did meanwhile; otherwise
-- occupied exactly while the train that entered it has not left.
abbrev pub reading : Seen → SectionState
reading seen = cond seen.failed OutOfOrder (cond (is_some seen.inside) Occupied Vacant)

-- a mark tells of every legal train that it is there
abbrev pub Lawful : (ℕ → ℕ) → Type 0
Lawful mark = (axles : ℕ) → legal_axles axles ≡ true → 1 ≤ mark axles

-- What is certain of a track that was new, once these calls have led to these cells.
pub record Run (mark : ℕ → ℕ) (calls : List TrackCall) (cells : List Cell) : Type 0 where
  pub reached : cells ≡ run_after mark new_cells calls
  pub reads : (s : ℕ) → legal_section s ≡ true
      → state_of (cell_of cells s) ≡ reading (see_all s nothing_seen (transcript mark new_cells calls))

-- One call more: whatever calls came before, in whatever order, the run goes on.
abbrev pub GoesOn : (ℕ → ℕ) → List Cell → TrackCall → List Cell → Type 0
GoesOn mark old call new =
    (calls : List TrackCall) → old ≡ run_after mark new_cells calls → Run mark (calls ++ call ∷ []) new
