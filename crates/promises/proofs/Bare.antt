-- A bare line turns every call down but a laying.
use Rattle.std.proofs.Common.{◌≡◌, false, List, None}
use Rattle.std.proofs.lemmas.Bool.{both_ways}
use Rattle.rules.specs.Calls.{Call, lay, direction, starter, home, put_on, withdraw, advance, follow, fail, mend}
use Rattle.rules.specs.Calls.{close, hand_in, ask_signal, ask_name, paint, rows, verdict}
use Rattle.rules.specs.Lines.{Line, bare}
use Rattle.rules.specs.Signals.{Shows}
use Rattle.rules.specs.declared.line.Laying.{Laying}
use Rattle.rules.specs.declared.line.PlanEntry.{PlanEntry}
use Rattle.rules.proofs.Rows.{none_hold}
use Rattle.promises.specs.Sound.{Blank}

module _ (shows : Shows) (line : Line) (blank : Blank line) where
  is_bare : bare line ≡ false → ⊥
  is_bare laid = both_ways (bare line) laid (rw blank.none_laid)

  -- what holds of a laying carried out holds of every call carried out there
  pub only_laying : (Holds : Call → Type 0)
      → ((laying : Laying) (plan : List PlanEntry) → verdict shows line (lay laying plan) ≡ None
      → Holds (lay laying plan))
      → (c : Call) → verdict shows line c ≡ None → Holds c
  only_laying Holds at_laying (lay laying plan) none = at_laying laying plan none
  only_laying Holds at_laying (direction n send) none =
      absurd (is_bare (none_hold (rows shows line (direction n send)) none).0)
  only_laying Holds at_laying (starter n road) none =
      absurd (is_bare (none_hold (rows shows line (starter n road)) none).0)
  only_laying Holds at_laying (home n road) none = absurd (is_bare (none_hold (rows shows line (home n road)) none).0)
  only_laying Holds at_laying (put_on number axles n road) none =
      absurd (is_bare (none_hold (rows shows line (put_on number axles n road)) none).0)
  only_laying Holds at_laying (withdraw number) none =
      absurd (is_bare (none_hold (rows shows line (withdraw number)) none).0)
  only_laying Holds at_laying (advance number) none =
      absurd (is_bare (none_hold (rows shows line (advance number)) none).0)
  only_laying Holds at_laying (follow number) none =
      absurd (is_bare (none_hold (rows shows line (follow number)) none).0)
  only_laying Holds at_laying (fail s) none = absurd (is_bare (none_hold (rows shows line (fail s)) none).0)
  only_laying Holds at_laying (mend s) none = absurd (is_bare (none_hold (rows shows line (mend s)) none).0)
  only_laying Holds at_laying (close block) none = absurd (is_bare (none_hold (rows shows line (close block)) none).0)
  only_laying Holds at_laying (hand_in number block) none =
      absurd (is_bare (none_hold (rows shows line (hand_in number block)) none).0)
  only_laying Holds at_laying (ask_signal n place) none =
      absurd (is_bare (none_hold (rows shows line (ask_signal n place)) none).0)
  only_laying Holds at_laying (ask_name name) none =
      absurd (is_bare (none_hold (rows shows line (ask_name name)) none).0)
  only_laying Holds at_laying (paint bytes) none = absurd (is_bare (none_hold (rows shows line (paint bytes)) none).0)
