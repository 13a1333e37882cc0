-- What a method of a line returns, as an answer.
use Rattle.std.specs.Prelude.{ℕ, List, Ok, Err, Result}
use Rattle.rules.specs.declared.aspect.Aspect.{Aspect}
use Rattle.rules.specs.declared.refusal.Refusal.{Refusal}
use Rattle.line.specs.declared.calls.Answer.{Answer}
use Rattle.line.specs.declared.calls.Answer.TheVariants.{Done, TurnedDown, Shows, Section, Closed, NotTaken, Painted}
use Rattle.line.specs.declared.slip.Slip.{Slip}

abbrev pub done_or : Result (Unit {0}) Refusal → Answer
done_or (Ok done) = Done
done_or (Err refusal) = TurnedDown refusal

abbrev pub slip_or : Result Slip Refusal → Answer
slip_or (Ok slip) = Closed slip
slip_or (Err refusal) = TurnedDown refusal

abbrev pub taken_or : Result (Unit {0}) (Refusal × Slip) → Answer
taken_or (Ok done) = Done
taken_or (Err back) = NotTaken back.0 back.1

abbrev pub shown_or : Result (Aspect × ℕ) Refusal → Answer
shown_or (Ok shown) = Shows shown.0 shown.1
shown_or (Err refusal) = TurnedDown refusal

abbrev pub named_or : Result ℕ Refusal → Answer
named_or (Ok section) = Section section
named_or (Err refusal) = TurnedDown refusal

abbrev pub painted_or : Result (List ℕ) Refusal → Answer
painted_or (Ok bytes) = Painted bytes
painted_or (Err refusal) = TurnedDown refusal
