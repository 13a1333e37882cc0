-- The calls and answers of the code, as those of the rules.
use Rattle.std.specs.Prelude.{◌≡◌, vec_items}
use Rattle.rules.specs.Calls as rules
use Rattle.rules.specs.LineRuns as rules_say
use Rattle.line.specs.declared.calls.Answer.{Answer}
use Rattle.line.specs.declared.calls.Answer.TheVariants.{Done, TurnedDown, Shows, Section, Closed, NotTaken, Painted}
use Rattle.line.specs.declared.calls.Call.{Call}
use Rattle.line.specs.declared.calls.Call.TheVariants.{Lay, Direction, Starter, Home, PutOn, Withdraw, Advance}
use Rattle.line.specs.declared.calls.Call.TheVariants.{Follow, Fail, Mend, Close, HandIn, Signal, SectionNamed, Paint}
use Rattle.line.specs.declared.slip.Slip.{Slip}

-- the call of the rules that a call of the code makes
abbrev pub asked : Call → rules.Call
asked (Lay laying plan) = rules.lay laying (vec_items plan)
asked (Direction station send) = rules.direction station send
asked (Starter station road) = rules.starter station road
asked (Home station road) = rules.home station road
asked (PutOn number axles station road) = rules.put_on number axles station road
asked (Withdraw number) = rules.withdraw number
asked (Advance number) = rules.advance number
asked (Follow number) = rules.follow number
asked (Fail section) = rules.fail section
asked (Mend section) = rules.mend section
asked (Close block) = rules.close block
asked (HandIn slip) = rules.hand_in slip.line slip.block
asked (Signal station place) = rules.ask_signal station place
asked (SectionNamed name) = rules.ask_name name
asked (Paint bytes) = rules.paint bytes

-- the answer of the rules that an answer of the code stands for: each case with its values
abbrev pub meant : Answer → rules_say.Answer
meant Done = rules_say.done
meant (TurnedDown refusal) = rules_say.turned_down refusal
meant (Shows aspect count) = rules_say.signal aspect count
meant (Section section) = rules_say.section section
meant (Closed slip) = rules_say.slip slip.line slip.block
meant (NotTaken refusal slip) = rules_say.turned_down refusal
meant (Painted bytes) = rules_say.painted bytes

-- The slip of a handing-in that is turned down comes back, and no other call's answer says that one does.
abbrev pub ComesBack : Slip → Answer → Type 0
ComesBack slip Done = Unit {0}
ComesBack slip (TurnedDown refusal) = ⊥
ComesBack slip (Shows aspect count) = ⊥
ComesBack slip (Section section) = ⊥
ComesBack slip (Closed other) = ⊥
ComesBack slip (NotTaken refusal back) = back ≡ slip
ComesBack slip (Painted bytes) = ⊥

abbrev pub NoSlipBack : Answer → Type 0
NoSlipBack Done = Unit {0}
NoSlipBack (TurnedDown refusal) = Unit {0}
NoSlipBack (Shows aspect count) = Unit {0}
NoSlipBack (Section section) = Unit {0}
NoSlipBack (Closed slip) = Unit {0}
NoSlipBack (NotTaken refusal back) = ⊥
NoSlipBack (Painted bytes) = Unit {0}

abbrev pub SlipKept : Call → Answer → Type 0
SlipKept (Lay laying plan) answer = NoSlipBack answer
SlipKept (Direction station send) answer = NoSlipBack answer
SlipKept (Starter station road) answer = NoSlipBack answer
SlipKept (Home station road) answer = NoSlipBack answer
SlipKept (PutOn number axles station road) answer = NoSlipBack answer
SlipKept (Withdraw number) answer = NoSlipBack answer
SlipKept (Advance number) answer = NoSlipBack answer
SlipKept (Follow number) answer = NoSlipBack answer
SlipKept (Fail section) answer = NoSlipBack answer
SlipKept (Mend section) answer = NoSlipBack answer
SlipKept (Close block) answer = NoSlipBack answer
SlipKept (HandIn slip) answer = ComesBack slip answer
SlipKept (Signal station place) answer = NoSlipBack answer
SlipKept (SectionNamed name) answer = NoSlipBack answer
SlipKept (Paint bytes) answer = NoSlipBack answer
