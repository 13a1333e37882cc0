-- Slips, given and handed in.
use Rattle.std.specs.Prelude.{◌≡◌, ℕ, Ok, Err, Result}
use Rattle.rules.specs.Lines.{Line, laying_of}
use Rattle.rules.specs.declared.refusal.Refusal.{Refusal}
use Rattle.line.specs.declared.slip.Slip.{Slip}

-- the slip that a line gives for a block
abbrev pub slip_for : Line → ℕ → Slip
slip_for line block = record { line = (laying_of line).number; block = block }

-- the answer to a handing-in, but for the slip
abbrev pub without_slip : Result (Unit {0}) (Refusal × Slip) → Result (Unit {0}) Refusal
without_slip (Ok done) = Ok done
without_slip (Err back) = Err back.0

-- Turned down, the very slip comes back.
abbrev pub GivenBack : Slip → Result (Unit {0}) (Refusal × Slip) → Type 0
GivenBack slip (Ok done) = Unit {0}
GivenBack slip (Err back) = back.1 ≡ slip
