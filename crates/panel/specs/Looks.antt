-- What comes of looks at a panel under test. A look is what is found where a panel shows these bytes.
use Rattle.std.specs.Prelude.{ℕ, cond, List, ◌++◌, length, Ok, Err, Result, nat_lt, codes, decimal}
use Rattle.panel.specs.LampTests.{panel_bytes, under_test}
use Rattle.panel.specs.declared.fitting.Fault.{Fault}
use Rattle.panel.specs.declared.fitting.Fault.TheVariants.{DarkLamp, ShortPanel}

-- nothing wrong, or a fault
abbrev pub Found : Type 0
Found = Result (Unit {0}) Fault

-- a fault as people read it
abbrev pub fault_text : Fault → List ℕ
fault_text (DarkLamp byte) = codes "lamp " ++ (decimal byte ++ codes " stays dark")
fault_text ShortPanel = codes "short panel"

abbrev until_fault : Found → Found → Found
until_fault (Ok _) second = second
until_fault (Err fault) second = Err fault

-- two looks, the second only where the first finds nothing
abbrev pub in_turn : (List ℕ → Found) → (List ℕ → Found) → List ℕ → Found
in_turn one other bytes = until_fault (one (under_test bytes)) (other (under_test bytes))

-- a look at a panel that has all its bytes
abbrev pub if_whole : (List ℕ → Found) → List ℕ → Found
if_whole look bytes = cond (nat_lt (length bytes) panel_bytes) (Err ShortPanel) (look (under_test bytes))

-- a look under test and one after it
abbrev pub lit_and_after : (List ℕ → Found) → List ℕ → Found × Found
lit_and_after look bytes = (look (under_test bytes), look bytes)
