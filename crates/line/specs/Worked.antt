-- What any call, worked in a line, comes to.
use Rattle.std.specs.Prelude.{◌≡◌, ℕ, List}
use Rattle.rules.specs.Signals.{Shows}
use Rattle.rules.specs.declared.detection.Cell.{Cell}
use Rattle.line.specs.Exact.{exact_answer, exact_after}
use Rattle.line.specs.History.{GoesOn}
use Rattle.line.specs.Told.{asked, meant, SlipKept}
use Rattle.line.specs.Worlds.{world}
use Rattle.line.specs.declared.Line.{Line}
use Rattle.line.specs.declared.calls.Answer.{Answer}
use Rattle.line.specs.declared.calls.Call.{Call}

-- The answer and what is left are those of the rules, of room and of the track; the lamps are the same, and a slip
-- that is not taken comes back. On a line that was new, whatever calls came before, every promise goes on.
pub record Worked {X Y : Type 0} (shows : Y → Shows) (mark : ℕ → ℕ) (cells : X → List Cell) (old : Line X Y)
    (call : Call) (reply : Answer) (new : Line X Y) : Type 0 where
  pub answer : meant reply ≡ exact_answer (shows old.lamps) mark (world cells old) (asked call)
  pub after : world cells new ≡ exact_after (shows old.lamps) mark (world cells old) (asked call)
  pub lamps : new.lamps ≡ old.lamps
  pub slip : SlipKept call reply
  pub history : GoesOn (shows old.lamps) mark (world cells old) (asked call) (meant reply) (world cells new)
