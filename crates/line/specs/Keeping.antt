-- What a line keeps to, whatever its track: the facts that its type states.
use Rattle.std.specs.Prelude.{ℕ, ◌+◌, Bool, true, ◌&&◌, ◌||◌, List, length, is_some, Some, None, Option}
use Rattle.std.specs.Prelude.{◌==◌, nat_eq, nat_le, nat_lt}
use Rattle.std.specs.List.{list_all}
use Rattle.std.specs.Option.{unwrap_or}
use Rattle.rules.specs.Calls.{legal_laying}
use Rattle.rules.specs.Lines.{no_laying}
use Rattle.rules.specs.declared.line.Laying.{Laying}
use Rattle.rules.specs.declared.line.Levers.{Levers}
use Rattle.rules.specs.declared.line.PlanEntry.{PlanEntry}
use Rattle.rules.specs.declared.line.Train.{Train}

-- A line that is laid keeps to the limits of a laying.
abbrev pub laid_legally : Option Laying → Bool
laid_legally None = true
laid_legally (Some laying) = legal_laying laying

-- the blocks of a line, 0 while it is bare
abbrev pub blocks_laid : Option Laying → ℕ
blocks_laid laying = (unwrap_or laying no_laying).blocks

-- No entry bears 0, and its metres keep to their limits.
abbrev pub entry_kept : PlanEntry → Bool
entry_kept entry = nat_lt 0 entry.name && nat_le entry.metres 9999

-- The plan has an entry for each section in use.
abbrev pub plan_kept : Option Laying → List PlanEntry → Bool
plan_kept laying plan =
    nat_eq (length plan)
    (blocks_laid laying + (unwrap_or laying no_laying).roads_a + (unwrap_or laying no_laying).roads_b)
    && list_all entry_kept plan

-- No card bears 0; a train's rear is not ahead of its front, and its front not beyond the far station.
abbrev pub train_kept : ℕ → Train → Bool
train_kept n train =
    nat_lt 0 train.number && nat_le train.rear train.front && nat_le train.front (n + 1)
    && nat_le train.road 4 && nat_le train.into 4

-- Every train is in order, and a bare line has none.
abbrev pub trains_kept : Option Laying → List Train → Bool
trains_kept laying trains =
    (is_some laying || length trains == 0) && list_all (train_kept (blocks_laid laying)) trains

-- a lever is normal or reversed for one of four roads
abbrev pub levers_kept : Levers → Bool
levers_kept levers = nat_le levers.starter 4 && nat_le levers.home 4
