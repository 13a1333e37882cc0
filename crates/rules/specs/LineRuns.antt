-- What calls and questions answer, one and many.
use Rattle.std.specs.Prelude.{ℕ, List, [], ◌∷◌, Some, None, Option}
use Rattle.std.specs.Option.{unwrap_or}
use Rattle.rules.specs.Calls.{Call, lay, direction, starter, home, put_on, withdraw, advance, follow, fail, mend}
use Rattle.rules.specs.Calls.{close, hand_in, ask_signal, ask_name, paint}
use Rattle.rules.specs.Calls.{verdict, line_after, name_index, entry_section}
use Rattle.rules.specs.Lines.{Line, laying_of}
use Rattle.rules.specs.Panels.{panel}
use Rattle.rules.specs.Signals.{Shows, distance_to, count_at, aspect_at}
use Rattle.rules.specs.Stations.{station_of}
use Rattle.rules.specs.declared.aspect.Aspect.{Aspect}
use Rattle.rules.specs.declared.line.Station.{Station}
use Rattle.rules.specs.declared.line.Station.TheVariants.{EndA}
use Rattle.rules.specs.declared.refusal.Refusal.{Refusal}

pub data Answer : Type 0 where
  done : Answer
  turned_down : Refusal → Answer
  -- a signal's aspect and count
  signal : Aspect → ℕ → Answer
  -- a section by its name
  section : ℕ → Answer
  -- the line number and the block that the slip bears
  slip : ℕ → ℕ → Answer
  -- the 66 bytes
  painted : List ℕ → Answer

abbrev signal_answer : Shows → Line → Station → ℕ → Answer
signal_answer shows line station distance =
    signal (aspect_at shows line station distance) (count_at line station distance)

-- What a call answers when no row holds.
abbrev pub result : Shows → Line → Call → Answer
result shows line (lay laying plan) = done
result shows line (direction n send) = done
result shows line (starter n road) = done
result shows line (home n road) = done
result shows line (put_on number axles n road) = done
result shows line (withdraw number) = done
result shows line (advance number) = done
result shows line (follow number) = done
result shows line (fail s) = done
result shows line (mend s) = done
result shows line (close block) = slip (laying_of line).number block
result shows line (hand_in number block) = done
result shows line (ask_signal n place) =
    signal_answer shows line (unwrap_or (station_of n) EndA) (distance_to line (unwrap_or (station_of n) EndA) place)
result shows line (ask_name name) = section (entry_section line (unwrap_or (name_index line name) 0))
result shows line (paint bytes) = painted (panel shows line)

abbrev pub unless : Option Refusal → Answer → Answer
unless None answer = answer
unless (Some refusal) answer = turned_down refusal

abbrev pub answer_to : Shows → Line → Call → Answer
answer_to shows line call = unless (verdict shows line call) (result shows line call)

-- a list of calls, from a line: what they answer, and the line after them
abbrev pub answers : Shows → (ℕ → ℕ) → Line → List Call → List Answer
answers shows mark line [] = []
answers shows mark line (call ∷ calls) =
    answer_to shows line call ∷ answers shows mark (line_after shows mark line call) calls

abbrev pub after_all : Shows → (ℕ → ℕ) → Line → List Call → Line
after_all shows mark line [] = line
after_all shows mark line (call ∷ calls) = after_all shows mark (line_after shows mark line call) calls
