-- What the methods of a line return, as answers of the rules.
use Rattle.std.proofs.Common.{◌≡◌, ℕ, List, Some, None, Ok, Err, Option, Result, sym, refl, ap, ◌∙◌}
use Rattle.rules.specs.Aspects.{aspect_number}
use Rattle.rules.specs.Calls.{effect}
use Rattle.rules.specs.LineRuns as rules_say
use Rattle.rules.specs.LineRuns.{unless, result}
use Rattle.rules.specs.Signals.{Shows}
use Rattle.rules.specs.Table.{answer}
use Rattle.rules.specs.TrackRuns.{Lawful}
use Rattle.rules.specs.declared.aspect.Aspect.{Aspect}
use Rattle.rules.specs.declared.detection.Cell.{Cell}
use Rattle.rules.specs.declared.refusal.Refusal.{Refusal}
use Rattle.line.specs.Exact.{exact_answer, exact_after, exact_verdict}
use Rattle.line.specs.Results.{done_or, slip_or, taken_or, shown_or, named_or, painted_or}
use Rattle.line.specs.Slips.{without_slip, GivenBack}
use Rattle.line.specs.Told.{asked, meant, SlipKept, NoSlipBack, ComesBack}
use Rattle.line.specs.Worked.{Worked}
use Rattle.line.specs.Works.{Works}
use Rattle.line.specs.Worlds.{world}
use Rattle.line.specs.declared.Line.{Line}
use Rattle.line.specs.declared.calls.Answer.{Answer}
use Rattle.line.specs.declared.calls.Call.{Call}
use Rattle.line.specs.declared.calls.Call.TheVariants.{HandIn}
use Rattle.line.specs.declared.slip.Slip.{Slip}
use Rattle.rules.proofs.Rows.{nothing_altered}
use Rattle.line.proofs.Exits.{stopped, passed}
use Rattle.line.proofs.Histories.{lamps_lawful, goes_on}

pub done_said : (v : Option Refusal) → meant (done_or (answer v tt)) ≡ unless v rules_say.done
done_said None = refl
done_said (Some refusal) = refl

pub slip_said : (v : Option Refusal) (slip : Slip)
    → meant (slip_or (answer v slip)) ≡ unless v (rules_say.slip slip.line slip.block)
slip_said None slip = refl
slip_said (Some refusal) slip = refl

pub shown_said : (v : Option Refusal) (shown : Aspect × ℕ)
    → meant (shown_or (answer v shown)) ≡ unless v (rules_say.signal shown.0 shown.1)
shown_said None shown = refl
shown_said (Some refusal) shown = refl

pub named_said : (v : Option Refusal) (section : ℕ)
    → meant (named_or (answer v section)) ≡ unless v (rules_say.section section)
named_said None section = refl
named_said (Some refusal) section = refl

pub painted_said : (v : Option Refusal) (bytes : List ℕ)
    → meant (painted_or (answer v bytes)) ≡ unless v (rules_say.painted bytes)
painted_said None bytes = refl
painted_said (Some refusal) bytes = refl

pub taken_said : (v : Option Refusal) (result : Result (Unit {0}) (Refusal × Slip))
    → without_slip result ≡ answer v tt → meant (taken_or result) ≡ unless v rules_say.done
taken_said v (Ok done) h = sym (ap (λ w. unless w rules_say.done) (passed v tt tt h).0)
taken_said v (Err back) h = sym (ap (λ w. unless w rules_say.done) (stopped v tt back.0 h))

-- only a handing-in's answer has a slip that comes back
pub done_alone : (result : Result (Unit {0}) Refusal) → NoSlipBack (done_or result)
done_alone (Ok done) = tt
done_alone (Err refusal) = tt

pub slip_alone : (result : Result Slip Refusal) → NoSlipBack (slip_or result)
slip_alone (Ok slip) = tt
slip_alone (Err refusal) = tt

pub shown_alone : (result : Result (Aspect × ℕ) Refusal) → NoSlipBack (shown_or result)
shown_alone (Ok shown) = tt
shown_alone (Err refusal) = tt

pub named_alone : (result : Result ℕ Refusal) → NoSlipBack (named_or result)
named_alone (Ok section) = tt
named_alone (Err refusal) = tt

pub painted_alone : (result : Result (List ℕ) Refusal) → NoSlipBack (painted_or result)
painted_alone (Ok bytes) = tt
painted_alone (Err refusal) = tt

pub taken_back : (slip : Slip) (result : Result (Unit {0}) (Refusal × Slip)) → GivenBack slip result
    → ComesBack slip (taken_or result)
taken_back slip (Ok done) h = tt
taken_back slip (Err back) h = h

-- So works a call of a line with lawful lamps and a lawful track: by the method that it calls, which ends so, and by
-- what that returned, said as an answer.
module _ {X Y : Type 0} {shows : Y → Shows} {mark : ℕ → ℕ} {cells : X → List Cell} {old new : Line X Y}
    (stops : (m : ℕ) → aspect_number (shows old.lamps 0 m) ≡ 0)
    (proceeds : (r m : ℕ) → aspect_number (shows old.lamps r m) ≡ 0 → r ≡ 0) (lawful : Lawful mark)
    (call : Call) where
  worked : (reply : Answer) → meant reply ≡ exact_answer (shows old.lamps) mark (world cells old) (asked call)
      → world cells new ≡ exact_after (shows old.lamps) mark (world cells old) (asked call)
      → new.lamps ≡ old.lamps → SlipKept call reply → Worked shows mark cells old call reply new
  worked reply said left lamps slip = record {
    answer = said;
    after = left;
    lamps = lamps;
    slip = slip;
    history = goes_on (shows old.lamps) (lamps_lawful (shows old.lamps) stops proceeds) mark lawful (world cells old)
        (world cells new) (asked call) (meant reply) said left;
  }

  -- by a call
  pub by_call : {R : Type 0} {value : R} (says : Result R Refusal → Answer)
      → ((v : Option Refusal) → meant (says (answer v value))
      ≡ unless v (result (shows old.lamps) (world cells old) (asked call)))
      → ((returned : Result R Refusal) → SlipKept call (says returned))
      → (returned : Result R Refusal)
      → Works shows mark cells old (asked call) value returned new
      → Worked shows mark cells old call (says returned) new
  by_call says told kept returned works =
      worked (says returned) (ap (λ r. meant (says r)) works.ends.answer ∙ told _) works.ends.after works.lamps
      (kept returned)

  -- by a handing-in
  pub by_handing_in : (slip : Slip) → call ≡ HandIn slip → (returned : Result (Unit {0}) (Refusal × Slip))
      → Works shows mark cells old (asked call) tt (without_slip returned) new → GivenBack slip returned
      → Worked shows mark cells old call (taken_or returned) new
  by_handing_in slip is returned works back =
      worked (taken_or returned) (taken_said _ returned works.ends.answer ∙ rw is refl) works.ends.after works.lamps
      (rw is (taken_back slip returned back))

-- by a question, which leaves the line as it was, turned down or not
module _ {X Y : Type 0} {shows : Y → Shows} {mark : ℕ → ℕ} {cells : X → List Cell} {line : Line X Y}
    (stops : (m : ℕ) → aspect_number (shows line.lamps 0 m) ≡ 0)
    (proceeds : (r m : ℕ) → aspect_number (shows line.lamps r m) ≡ 0 → r ≡ 0) (lawful : Lawful mark)
    (call : Call) where
  pub by_question : {R : Type 0} (value : R) (says : Result R Refusal → Answer)
      → ((v : Option Refusal) → meant (says (answer v value))
      ≡ unless v (result (shows line.lamps) (world cells line) (asked call)))
      → ((returned : Result R Refusal) → SlipKept call (says returned))
      → (returned : Result R Refusal)
      → returned ≡ answer (exact_verdict (shows line.lamps) mark (world cells line) (asked call)) value
      → effect mark (world cells line) (asked call) ≡ world cells line
      → Worked shows mark cells line call (says returned) line
  by_question value says told kept returned answered still =
      worked stops proceeds lawful call (says returned) (ap (λ r. meant (says r)) answered ∙ told _)
      (rw still (nothing_altered _ _)) refl (kept returned)
