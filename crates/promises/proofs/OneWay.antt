-- The stations never both send, and proceed is shown only to trains from the station that does.
use Rattle.std.proofs.Common.{◌≡◌, ℕ, Bool, true, false, ◌&&◌, eqb, leb, List, [], ◌∷◌, Some, None, Option, unwrap_or}
use Rattle.std.proofs.Common.{refl, ap, ◌∙◌, inl, inr, arith}
use Rattle.std.proofs.lemmas.Bool.{and_left, and_right, and_cases, cases_Bool, both_ways}
use Rattle.rules.specs.Calls.{Call, lay, direction, starter, home, put_on, withdraw, advance, follow, fail, mend}
use Rattle.rules.specs.Calls.{close, hand_in, ask_signal, ask_name, paint, rows, verdict, effect, line_after}
use Rattle.rules.specs.Calls.{some_station, with_levers, turned, starter_put, home_put}
use Rattle.rules.specs.Aspects.{aspect_number}
use Rattle.rules.specs.LineRuns.{signal, unless, result, after_all}
use Rattle.rules.specs.Lines.{Line, new_line, blocks, levers_at, sends}
use Rattle.promises.specs.Promises.{NeverBothSend, ProceedFacesTheSender}
use Rattle.rules.specs.Signals.{Shows, distance_to, count_at, metres_at, aspect_at}
use Rattle.rules.specs.Stations.{other_end}
use Rattle.rules.specs.Table.{after}
use Rattle.rules.specs.declared.aspect.Aspect.{Aspect}
use Rattle.rules.specs.declared.line.Levers.{Levers}
use Rattle.rules.specs.declared.line.Station.{Station}
use Rattle.rules.specs.declared.line.Station.TheVariants.{EndA, EndB}
use Rattle.rules.specs.declared.refusal.Refusal.{Refusal}
use Rattle.rules.proofs.Rows.{none_hold}

abbrev NotBoth : Line → Type 0
NotBoth line = (sends line EndA && sends line EndB) ≡ false

pub and_swap : (a b : Bool) → (a && b) ≡ false → (b && a) ≡ false
and_swap a b h = elim (and_cases a b h) [ inl e ↦ and_right b a e | inr e ↦ and_left b a e ]

-- a direction lever turned where the far end does not send with it
pub turned_keeps : (line : Line) (station : Station) (send : Bool) → (send && sends line (other_end station)) ≡ false
    → NotBoth (with_levers line station (turned (levers_at line station) send))
turned_keeps line EndA send h = h
turned_keeps line EndB send h = and_swap send line.at_a.sends h

-- levers changed with the direction as it was
pub same_way : (line : Line) (station : Station) (levers : Levers) → levers.sends ≡ sends line station → NotBoth line
    → NotBoth (with_levers line station levers)
same_way line EndA levers e h = rw e h
same_way line EndB levers e h = rw e h

-- each call that is carried out keeps it
kept : (shows : Shows) (mark : ℕ → ℕ) (line : Line) (c : Call) → verdict shows line c ≡ None → NotBoth line
    → NotBoth (effect mark line c)
kept shows mark line (lay laying plan) none h = h
kept shows mark line (direction n send) none h =
    turned_keeps line (some_station n) send (none_hold (rows shows line (direction n send)) none).1.1.1.0
kept shows mark line (starter n road) none h =
    same_way line (some_station n) (starter_put (levers_at line (some_station n)) road) refl h
kept shows mark line (home n road) none h =
    same_way line (some_station n) (home_put (levers_at line (some_station n)) road) refl h
kept shows mark line (put_on number axles n road) none h = h
kept shows mark line (withdraw number) none h = h
kept shows mark line (advance number) none h = h
kept shows mark line (follow number) none h = h
kept shows mark line (fail s) none h = h
kept shows mark line (mend s) none h = h
kept shows mark line (close block) none h = h
kept shows mark line (hand_in number block) none h = h
kept shows mark line (ask_signal n place) none h = h
kept shows mark line (ask_name name) none h = h
kept shows mark line (paint bytes) none h = h

after_any : (shows : Shows) (mark : ℕ → ℕ) (line : Line) (c : Call) → NotBoth line
    → NotBoth (line_after shows mark line c)
after_any shows mark line c h = by_verdict (verdict shows line c) refl where
  by_verdict : (met : Option Refusal) → verdict shows line c ≡ met → NotBoth (after met line (effect mark line c))
  by_verdict None e = kept shows mark line c e h
  by_verdict (Some refusal) e = h

after_every : (shows : Shows) (mark : ℕ → ℕ) (line : Line) (calls : List Call) → NotBoth line
    → NotBoth (after_all shows mark line calls)
after_every shows mark line [] h = h
after_every shows mark line (c ∷ calls) h =
    after_every shows mark (line_after shows mark line c) calls (after_any shows mark line c h)

pub never_both_send : NeverBothSend
never_both_send shows mark cells calls = after_every shows mark (new_line cells) calls refl

-- no signal of a station that does not send has anything clear to offer
pub no_count : (line : Line) (station : Station) (distance : ℕ) → sends line station ≡ false
    → count_at line station distance ≡ 0
no_count line station distance silent =
    elim (cases_Bool (eqb distance 1)) [
      | inl e ↦ rw (e, silent)
      | inr e ↦
          elim (cases_Bool (leb distance (blocks line))) [ inl l ↦ rw (e, l, silent) | inr l ↦ rw (e, l, silent) ]
    ]

shown_by : (shows : Shows) (line : Line) (n place count : ℕ) (aspect : Aspect) (met : Option Refusal)
    → unless met (result shows line (ask_signal n place)) ≡ signal aspect count
    → aspect ≡ aspect_at shows line (some_station n) (distance_to line (some_station n) place)
shown_by shows line n place count aspect None h = cc
shown_by shows line n place count aspect (Some refusal) h = let z : ◌≡◌ {A = ℕ} 0 1 = cc in absurd (omega arith)

pub proceed_faces_the_sender : ProceedFacesTheSender
proceed_faces_the_sender shows lawful line n place count station aspect known h proceeds =
    let distance = distance_to line station place in
    let here : some_station n ≡ station = ap (λ o. unwrap_or o EndA) known in
    let shown : aspect ≡ aspect_at shows line station distance =
    rw here at (shown_by shows line n place count aspect (verdict shows line (ask_signal n place)) h) in
    elim (cases_Bool (sends line station)) [
      | inl e ↦ e
      | inr silent ↦
          let stop : eqb (aspect_number (aspect_at shows line station distance)) 0 ≡ true =
          lawful (count_at line station distance) (metres_at line station distance)
          ∙ rw (no_count line station distance silent) in
          absurd (both_ways _ (rw shown at proceeds) stop)
    ]
