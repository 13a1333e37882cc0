-- What a line answers and leaves, whatever its track holds: the rows of the rules first, then the two outcomes that
-- the rules do not know, no room for a train and what the track itself turns down.
use Rattle.std.specs.Prelude.{◌≡◌, ℕ, List, [], ◌∷◌, ◌++◌, length, Some, None, Option, Result, nat_le}
use Rattle.rules.specs.Calls.{Call, lay, direction, starter, home, put_on, withdraw, advance, follow, fail, mend}
use Rattle.rules.specs.Calls.{close, hand_in, ask_signal, ask_name, paint, rows, verdict, effect, line_after}
use Rattle.promises.specs.Promises.{tells}
use Rattle.rules.specs.Detection.{track_rows}
use Rattle.rules.specs.LineRuns.{Answer, result, unless}
use Rattle.rules.specs.Lines.{Line}
use Rattle.rules.specs.Signals.{Shows}
use Rattle.promises.specs.Sound.{Kept}
use Rattle.rules.specs.Table.{Row, topmost, answer, after}
use Rattle.rules.specs.declared.detection.Cell.{Cell}
use Rattle.rules.specs.declared.detection.TrackCall.{TrackCall}
use Rattle.rules.specs.declared.refusal.Refusal.{Refusal}
use Rattle.rules.specs.declared.refusal.Refusal.TheVariants.{NotClear}

-- a line has room for 24 trains
abbrev pub no_room : Line → Call → List Row
no_room line (lay laying plan) = []
no_room line (direction n send) = []
no_room line (starter n road) = []
no_room line (home n road) = []
no_room line (put_on number axles n road) = (NotClear, nat_le 24 (length line.trains)) ∷ []
no_room line (withdraw number) = []
no_room line (advance number) = []
no_room line (follow number) = []
no_room line (fail section) = []
no_room line (mend section) = []
no_room line (close block) = []
no_room line (hand_in number block) = []
no_room line (ask_signal n place) = []
no_room line (ask_name name) = []
no_room line (paint bytes) = []

-- the rows of the track for what it is told
abbrev pub told_rows : (ℕ → ℕ) → List Cell → Option TrackCall → List Row
told_rows mark cells None = []
told_rows mark cells (Some call) = track_rows mark cells call

abbrev pub exact_rows : Shows → (ℕ → ℕ) → Line → Call → List Row
exact_rows shows mark line call =
    rows shows line call ++ (no_room line call ++ told_rows mark line.cells (tells line call))

abbrev pub exact_verdict : Shows → (ℕ → ℕ) → Line → Call → Option Refusal
exact_verdict shows mark line call = topmost (exact_rows shows mark line call)

abbrev pub exact_after : Shows → (ℕ → ℕ) → Line → Call → Line
exact_after shows mark line call = after (exact_verdict shows mark line call) line (effect mark line call)

abbrev pub exact_answer : Shows → (ℕ → ℕ) → Line → Call → Answer
exact_answer shows mark line call = unless (exact_verdict shows mark line call) (result shows line call)

-- As the rules alone say, and so that what always holds still does.
pub record ByTheRules {R : Type 0} (shows : Shows) (mark : ℕ → ℕ) (old : Line) (call : Call) (value : R)
    (result : Result R Refusal) (new : Line) : Type 0 where
  pub answer : result ≡ answer (verdict shows old call) value
  pub after : new ≡ line_after shows mark old call
  pub kept : Kept mark new

-- A call of a line ends so: what it answers, and the line that it leaves. Where track and trains agree, these are the
-- rules' own, and they agree again.
pub record Ends {R : Type 0} (shows : Shows) (mark : ℕ → ℕ) (old : Line) (call : Call) (value : R)
    (result : Result R Refusal) (new : Line) : Type 0 where
  pub answer : result ≡ answer (exact_verdict shows mark old call) value
  pub after : new ≡ exact_after shows mark old call
  pub agreed : Kept mark old → ByTheRules shows mark old call value result new
