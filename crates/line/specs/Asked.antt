-- What a question that is not turned down is answered.
use Rattle.std.specs.Prelude.{ℕ}
use Rattle.std.specs.Option.{unwrap_or}
use Rattle.rules.specs.Calls.{some_station, name_index, entry_section}
use Rattle.rules.specs.Lines.{Line}
use Rattle.rules.specs.Signals.{Shows, distance_to, count_at, aspect_at}
use Rattle.rules.specs.declared.aspect.Aspect.{Aspect}
use Rattle.rules.specs.declared.line.Station.{Station}

-- the signal that guards a place: the station of its trains, and how many places on from there that is
abbrev pub signal_at : Line → ℕ → ℕ → Station × ℕ
signal_at line n place = (some_station n, distance_to line (some_station n) place)

-- the aspect together with the count
abbrev pub signal_shown : Shows → Line → ℕ → ℕ → Aspect × ℕ
signal_shown shows line n place = (
  aspect_at shows line (signal_at line n place).0 (signal_at line n place).1,
  count_at line (signal_at line n place).0 (signal_at line n place).1,
)

abbrev pub section_named : Line → ℕ → ℕ
section_named line name = entry_section line (unwrap_or (name_index line name) 0)
