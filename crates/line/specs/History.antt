-- What is certain of a line that was new, whatever calls came before.
use Rattle.std.specs.Prelude.{◌≡◌, ℕ, false, ◌&&◌, List, [], ◌∷◌, ◌++◌, length}
use Rattle.rules.specs.Calls.{Call}
use Rattle.rules.specs.Detection.{new_cells}
use Rattle.rules.specs.LineRuns.{Answer, answers, answer_to, after_all}
use Rattle.rules.specs.Lines.{Line, new_line, sends}
use Rattle.rules.specs.Panels.{panel}
use Rattle.rules.specs.Signals.{Shows}
use Rattle.rules.specs.TrackRuns.{Lawful}
use Rattle.rules.specs.declared.detection.Cell.{Cell}
use Rattle.rules.specs.declared.line.Station.TheVariants.{EndA, EndB}
use Rattle.promises.specs.Promises.{TrainsApart, FrontsIntoClear, LockedUnderATrain, ProceedsForTheSender}
use Rattle.promises.specs.Promises.{SomeForemost, ForemostComesIn, TrackTakesAll, RoomForTrains}
use Rattle.promises.specs.Promises.{OneOfTheRows}

-- Every promise about a line, whatever call comes next.
pub record Promised (shows : Shows) (mark : ℕ → ℕ) (line : Line) : Type 0 where
  -- apart
  pub apart : TrainsApart line
  pub fronts : FrontsIntoClear shows mark line
  -- one way
  pub not_both : (sends line EndA && sends line EndB) ≡ false
  pub locked : LockedUnderATrain shows mark line
  pub faces : ProceedsForTheSender shows line
  -- gets in
  pub foremost : SomeForemost line
  pub comes_in : ForemostComesIn shows mark line
  -- and what else is promised
  pub taken : TrackTakesAll shows mark line
  pub room : RoomForTrains line
  pub frame : OneOfTheRows shows line

-- Another box, with any lawful track, that was given the same calls on a new track: it gave the same answers and
-- shows the same panel.
abbrev pub SameElsewhere : Shows → (ℕ → ℕ) → List Call → Line → Type 0
SameElsewhere shows mark calls line =
    (other : ℕ → ℕ) → Lawful other
    → (answers shows mark (new_line new_cells) calls ≡ answers shows other (new_line new_cells) calls)
    × (panel shows line ≡ panel shows (after_all shows other (new_line new_cells) calls))

-- One call more on a line that was new over these cells: the answer and what is left are those of the rules, and all
-- that is promised holds.
pub record Reached (shows : Shows) (mark : ℕ → ℕ) (cells : List Cell) (calls : List Call) (call : Call)
    (answer : Answer) (new : Line) : Type 0 where
  pub answered : answer ≡ answer_to shows (after_all shows mark (new_line cells) calls) call
  pub left : new ≡ after_all shows mark (new_line cells) (calls ++ call ∷ [])
  pub promised : Promised shows mark new
  pub same : cells ≡ new_cells → SameElsewhere shows mark (calls ++ call ∷ []) new

-- Whatever calls came before, in whatever order, over whatever 24 cells.
abbrev pub GoesOn : Shows → (ℕ → ℕ) → Line → Call → Answer → Line → Type 0
GoesOn shows mark old call answer new =
    (cells : List Cell) → length cells ≡ 24 → (calls : List Call)
    → old ≡ after_all shows mark (new_line cells) calls → Reached shows mark cells calls call answer new
