-- On a line that was new, a call ends as the rules say, and all that is promised goes on.
use Rattle.std.proofs.Common.{◌≡◌, ℕ, ◌<◌, List, [], ◌∷◌, ◌++◌, length, Some, None, Option, Result, sym, refl, ap}
use Rattle.std.proofs.Common.{◌∙◌, inl, inr, arith}
use Rattle.std.proofs.lemmas.List.{length_push}
use Rattle.std.proofs.lemmas.Bool.{cases_eq, ne_eqb, lt-leb}
use Rattle.rules.specs.Aspects.{aspect_number}
use Rattle.rules.specs.Calls.{Call, lay, direction, starter, home, put_on, withdraw, advance, follow, fail, mend}
use Rattle.rules.specs.Calls.{close, hand_in, ask_signal, ask_name, paint, rows, verdict, effect, line_after}
use Rattle.rules.specs.Calls.{standing, some_station}
use Rattle.rules.specs.LineRuns.{Answer, answer_to, after_all, result, unless}
use Rattle.rules.specs.Lines.{Line, new_line}
use Rattle.rules.specs.Signals.{Shows}
use Rattle.rules.specs.Table.{topmost, answer, after}
use Rattle.rules.specs.TrackRuns.{Lawful}
use Rattle.rules.specs.declared.detection.Cell.{Cell}
use Rattle.rules.specs.declared.detection.TrackCall.{TrackCall}
use Rattle.rules.specs.declared.line.Station.TheVariants.{EndA, EndB}
use Rattle.rules.specs.declared.refusal.Refusal.{Refusal}
use Rattle.promises.specs.Promises.{LawfulLamps, RoomForTrains, tells}
use Rattle.promises.proofs.Always.{after_any, always}
use Rattle.promises.proofs.Frame.{lever_frame}
use Rattle.promises.proofs.GetsIn.{gets_in}
use Rattle.promises.proofs.OneWay.{never_both_send, proceed_faces_the_sender}
use Rattle.promises.proofs.Promised.{apart, fronts_come_into_clear, no_surprise, direction_locked, taken}
use Rattle.promises.proofs.Promised.{bare_tells_nothing}
use Rattle.promises.proofs.RoomForTrains.{room, no_more_than_sections}
use Rattle.promises.proofs.SameLamps.{same_levers_same_lamps}
use Rattle.promises.specs.Sound.{Kept}
use Rattle.line.specs.Exact.{no_room, told_rows, exact_verdict, exact_answer, exact_after, ByTheRules, Ends}
use Rattle.line.specs.History.{Promised, GoesOn}
use Rattle.line.proofs.Exits.{Exactly, row_in_front, row_in_rest}

-- the two laws of lamps say that stop is shown exactly where nothing is clear
pub lamps_lawful : (shows : Shows) → ((m : ℕ) → aspect_number (shows 0 m) ≡ 0)
    → ((r m : ℕ) → aspect_number (shows r m) ≡ 0 → r ≡ 0) → LawfulLamps shows
lamps_lawful shows stops proceeds r m =
    elim (cases_eq r 0) [
      | inl none ↦ rw (none, stops m)
      | inr some ↦ ne_eqb _ 0 (λ stop. some (proceeds r m stop)) ∙ sym (ne_eqb r 0 some)
    ]

module _ (shows : Shows) (lamps : LawfulLamps shows) (mark : ℕ → ℕ) (lawful : Lawful mark) where
  -- the track takes what it is told
  told_taken : (line : Line) (c : Call) → Kept mark line → verdict shows line c ≡ None
      → (told : Option TrackCall) → tells line c ≡ told → topmost (told_rows mark line.cells told) ≡ None
  told_taken line c kept none None says = refl
  told_taken line c kept none (Some told) says =
      elim kept [
        | inl blank ↦
            let nothing : ◌≡◌ {A = Option TrackCall} None (Some told) =
            sym (bare_tells_nothing shows line blank c none) ∙ says in
            let z : ◌≡◌ {A = ℕ} 0 1 = cc in
            absurd (omega arith)
        | inr sound ↦ taken shows lamps mark lawful line sound c told none says
      ]

  kept_room : (line : Line) → Kept mark line → RoomForTrains line
  kept_room line kept =
      elim kept [
        | inl blank ↦ rw blank.no_trains (omega arith, omega arith)
        | inr sound ↦
            let most = no_more_than_sections mark line sound in
            let limits = sound.limits in
            (most, omega (arith, limits.most, limits.few EndA, limits.few EndB))
      ]

  -- where a train may be put on there is room for it
  roomy : (line : Line) (c : Call) → Kept mark line → verdict shows line c ≡ None → topmost (no_room line c) ≡ None
  roomy line (lay laying plan) kept none = refl
  roomy line (direction n send) kept none = refl
  roomy line (starter n road) kept none = refl
  roomy line (home n road) kept none = refl
  roomy line (put_on number axles n road) kept none =
      let c = put_on number axles n road in
      let new = standing number axles (some_station n) road in
      let then : line_after shows mark line c ≡ effect mark line c = ap (λ v. after v line (effect mark line c)) none in
      let still = after_any shows lamps mark lawful line c kept in
      let fewer = rw then at (kept_room (line_after shows mark line c) still).1 in
      let below : length line.trains < 24 = omega (arith, fewer, length_push line.trains new) in
      rw (lt-leb 24 (length line.trains) below)
  roomy line (withdraw number) kept none = refl
  roomy line (advance number) kept none = refl
  roomy line (follow number) kept none = refl
  roomy line (fail s) kept none = refl
  roomy line (mend s) kept none = refl
  roomy line (close block) kept none = refl
  roomy line (hand_in number block) kept none = refl
  roomy line (ask_signal n place) kept none = refl
  roomy line (ask_name name) kept none = refl
  roomy line (paint bytes) kept none = refl

  -- where track and trains agree, the rules alone decide
  pub rules_decide : (line : Line) (c : Call) → Kept mark line
      → exact_verdict shows mark line c ≡ verdict shows line c
  rules_decide line c kept = by_verdict (verdict shows line c) refl where
    by_verdict : (met : Option Refusal) → verdict shows line c ≡ met → exact_verdict shows mark line c ≡ met
    by_verdict (Some refusal) e = row_in_front (rows shows line c) _ refusal e
    by_verdict None e =
        row_in_rest (rows shows line c) (no_room line c ++ told_rows mark line.cells (tells line c)) e
        ∙ row_in_rest (no_room line c) (told_rows mark line.cells (tells line c)) (roomy line c kept e)
        ∙ told_taken line c kept e (tells line c) refl

  -- a call that ends by the rows of the rules, of room and of the track ends by the rules alone
  decided : {R : Type 0} (old new : Line) (c : Call) (value : R) (result : Result R Refusal)
      → Exactly shows mark old c value result new → Kept mark old
      → ByTheRules shows mark old c value result new
  decided old new c value result exact kept =
      let same = rules_decide old c kept in
      let left : new ≡ line_after shows mark old c =
      exact.after ∙ ap (λ v. after v old (effect mark old c)) same in
      record {
        answer = exact.answer ∙ ap (λ v. answer v value) same;
        after = left;
        kept = rw left (after_any shows lamps mark lawful old c kept);
      }

  one_call_more : (line : Line) (calls : List Call) (c : Call)
      → after_all shows mark line (calls ++ c ∷ []) ≡ line_after shows mark (after_all shows mark line calls) c
  one_call_more line [] c = refl
  one_call_more line (first ∷ calls) c = one_call_more (line_after shows mark line first) calls c

  all_promised : (cells : List Cell) → length cells ≡ 24 → (calls : List Call)
      → Promised shows mark (after_all shows mark (new_line cells) calls)
  all_promised cells sized calls = record {
    apart = (apart shows lamps mark lawful cells sized calls).0;
    fronts = fronts_come_into_clear shows lamps mark lawful cells sized calls;
    not_both = never_both_send shows mark cells calls;
    locked = direction_locked shows lamps mark lawful cells sized calls;
    faces = proceed_faces_the_sender shows lamps (after_all shows mark (new_line cells) calls);
    foremost = (gets_in shows lamps mark lawful cells sized calls).0;
    comes_in = (gets_in shows lamps mark lawful cells sized calls).1;
    taken = no_surprise shows lamps mark lawful cells sized calls;
    room = room shows lamps mark lawful cells sized calls;
    frame = lever_frame shows lamps mark lawful cells sized calls;
  }

  pub goes_on : (old new : Line) (c : Call) (reply : Answer) → reply ≡ exact_answer shows mark old c
      → new ≡ exact_after shows mark old c → GoesOn shows mark old c reply new
  goes_on old new c reply said changed cells sized calls reached =
      let kept : Kept mark old = rw reached (always shows lamps mark lawful cells sized calls) in
      let same = rules_decide old c kept in
      let left : new ≡ after_all shows mark (new_line cells) (calls ++ c ∷ []) =
      changed ∙ ap (λ v. after v old (effect mark old c)) same
      ∙ ap (λ line. line_after shows mark line c) reached ∙ sym (one_call_more (new_line cells) calls c) in
      record {
        answered = said ∙ ap (λ v. unless v (result shows old c)) same ∙ ap (λ line. answer_to shows line c) reached;
        left = left;
        promised = rw left (all_promised cells sized (calls ++ c ∷ []));
        same = λ on_a_new_track other other_lawful.
            let both = same_levers_same_lamps shows lamps mark other lawful other_lawful (calls ++ c ∷ []) in
            (both.0, rw (left, on_a_new_track) both.2);
      }

-- so ends a call of a line with lawful lamps and a lawful track
pub ends_so : {R : Type 0} {shows : Shows} {mark : ℕ → ℕ} {old new : Line} {c : Call} {value : R}
    {result : Result R Refusal} → ((m : ℕ) → aspect_number (shows 0 m) ≡ 0)
    → ((r m : ℕ) → aspect_number (shows r m) ≡ 0 → r ≡ 0) → Lawful mark
    → Exactly shows mark old c value result new → Ends shows mark old c value result new
ends_so {shows = shows} {mark = mark} {old = old} {new = new} {c = c} {value = value} {result = result} stops proceeds
    lawful exact = record {
      answer = exact.answer;
      after = exact.after;
      agreed = decided shows (lamps_lawful shows stops proceeds) mark lawful old new c value result exact;
    }
