-- What a call of a train comes to, once no row of the rules holds.
use Rattle.std.specs.Prelude.{ℕ, ◌+◌}
use Rattle.std.specs.Option.{unwrap_or}
use Rattle.rules.specs.Calls.{train_index, train_of, front_moved, rear_moved}
use Rattle.rules.specs.Lines.{Line, blocks, section_of}
use Rattle.rules.specs.declared.line.Train.{Train}
use Rattle.line.specs.declared.frame.trains.Move.{Move}

-- where the train of a number is among the trains, and the train
abbrev pub running : Line → ℕ → ℕ × Train
running line number = (unwrap_or (train_index line number) 0, train_of line number)

-- a train that is taken off leaves its road
abbrev pub taking_off : Line → ℕ → Move
taking_off line number = record {
  index = unwrap_or (train_index line number) 0;
  section = section_of (blocks line) (train_of line number) 0;
  axles = (train_of line number).axles;
  train = train_of line number;
}

-- a front moved on enters the section of the next place
abbrev pub advancing : Line → ℕ → Move
advancing line number = record {
  index = unwrap_or (train_index line number) 0;
  section = section_of (blocks line) (front_moved line (train_of line number)) ((train_of line number).front + 1);
  axles = (train_of line number).axles;
  train = front_moved line (train_of line number);
}

-- a rear moved on leaves the section where it was
abbrev pub following : Line → ℕ → Move
following line number = record {
  index = unwrap_or (train_index line number) 0;
  section = section_of (blocks line) (train_of line number) (train_of line number).rear;
  axles = (train_of line number).axles;
  train = rear_moved line (train_of line number);
}
