-- How a call of a line ends, with its track and its lamps.
use Rattle.std.specs.Prelude.{◌≡◌, ℕ, List, Result}
use Rattle.rules.specs.Calls.{Call}
use Rattle.rules.specs.Signals.{Shows}
use Rattle.rules.specs.declared.detection.Cell.{Cell}
use Rattle.rules.specs.declared.refusal.Refusal.{Refusal}
use Rattle.line.specs.Exact.{Ends}
use Rattle.line.specs.Worlds.{world}
use Rattle.line.specs.declared.Line.{Line}

-- The lamps stay as they are, whatever the call.
pub record Works {X Y R : Type 0} (shows : Y → Shows) (mark : ℕ → ℕ) (cells : X → List Cell) (old : Line X Y)
    (call : Call) (value : R) (result : Result R Refusal) (new : Line X Y) : Type 0 where
  pub ends : Ends (shows old.lamps) mark (world cells old) call value result (world cells new)
  pub lamps : new.lamps ≡ old.lamps
