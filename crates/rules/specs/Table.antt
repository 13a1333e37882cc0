-- The turning-down table: each row's number and word, and which row answers a call.
use Rattle.std.specs.Prelude.{◌≡◌, ℕ, Bool, true, cond, ◌&&◌, List, [], ◌∷◌, Some, None, Ok, Err, codes, Option}
use Rattle.std.specs.Prelude.{Result, nat_le, nat_lt}
use Rattle.rules.specs.declared.refusal.Refusal.{Refusal}
use Rattle.rules.specs.declared.refusal.Refusal.TheVariants.{NotLaid, Laid, BadPlan, NoStation, NoSection}
use Rattle.rules.specs.declared.refusal.Refusal.TheVariants.{NoRoad, BadCard, NumberInUse, NoTrain, ThereAlready}
use Rattle.rules.specs.declared.refusal.Refusal.TheVariants.{FarEndSends, WrongWay, LeverOnLever, LineNotClear, Held}
use Rattle.rules.specs.declared.refusal.Refusal.TheVariants.{NotClear, AtStop, RoadsEnd, NothingBehind, TrainAway}
use Rattle.rules.specs.declared.refusal.Refusal.TheVariants.{StrangeSlip, SoAlready, ShortPanel, WrongMark}
use Rattle.rules.specs.declared.refusal.Refusal.TheVariants.{Unreadable}

abbrev pub row_number : Refusal → ℕ
row_number NotLaid = 1
row_number Laid = 2
row_number BadPlan = 3
row_number NoStation = 4
row_number NoSection = 5
row_number NoRoad = 6
row_number BadCard = 7
row_number NumberInUse = 8
row_number NoTrain = 9
row_number ThereAlready = 10
row_number FarEndSends = 11
row_number WrongWay = 12
row_number LeverOnLever = 13
row_number LineNotClear = 14
row_number Held = 15
row_number NotClear = 16
row_number AtStop = 17
row_number RoadsEnd = 18
row_number NothingBehind = 19
row_number TrainAway = 20
row_number StrangeSlip = 21
row_number SoAlready = 22
row_number ShortPanel = 23
row_number WrongMark = 24
row_number Unreadable = 25

abbrev pub row_word : Refusal → List ℕ
row_word NotLaid = codes "not laid"
row_word Laid = codes "laid"
row_word BadPlan = codes "bad plan"
row_word NoStation = codes "no station"
row_word NoSection = codes "no section"
row_word NoRoad = codes "no road"
row_word BadCard = codes "bad card"
row_word NumberInUse = codes "number in use"
row_word NoTrain = codes "no train"
row_word ThereAlready = codes "there already"
row_word FarEndSends = codes "far end sends"
row_word WrongWay = codes "wrong way"
row_word LeverOnLever = codes "lever on lever"
row_word LineNotClear = codes "line not clear"
row_word Held = codes "held"
row_word NotClear = codes "not clear"
row_word AtStop = codes "at stop"
row_word RoadsEnd = codes "road's end"
row_word NothingBehind = codes "nothing behind"
row_word TrainAway = codes "train away"
row_word StrangeSlip = codes "strange slip"
row_word SoAlready = codes "so already"
row_word ShortPanel = codes "short panel"
row_word WrongMark = codes "wrong mark"
row_word Unreadable = codes "unreadable"

-- One row as a call meets it: the refusal, and whether its condition holds.
abbrev pub Row : Type 0
Row = Refusal × Bool

-- Where more than one row holds, the one nearest the top answers.
abbrev pub topmost : List Row → Option Refusal
topmost [] = None
topmost (row ∷ rows) = cond row.1 (Some row.0) (topmost rows)

-- The rows of a call stand as in the table: each below the one before it.
abbrev pub below : ℕ → List Row → Bool
below number [] = true
below number (row ∷ rows) = nat_lt number (row_number row.0) && below (row_number row.0) rows

abbrev pub InTableOrder : List Row → Type 0
InTableOrder rows = below 0 rows ≡ true

-- The answer of a call: refused by that row, or the result.
abbrev pub answer : {X : Type 0} → Option Refusal → X → Result X Refusal
answer None result = Ok result
answer (Some refusal) result = Err refusal

-- The same of a call that has nothing to tell.
abbrev pub outcome : Option Refusal → Result (Unit {0}) Refusal
outcome verdict = answer verdict tt

-- The state after a call: turned down, nothing alters.
abbrev pub after : {X : Type 0} → Option Refusal → X → X → X
after None old new = new
after (Some refusal) old new = old

-- low ≤ n ≤ high
abbrev pub within : ℕ → ℕ → ℕ → Bool
within low high n = nat_le low n && nat_le n high
