-- Over every list of calls, no two trains bear one number.
use Rattle.std.proofs.Common.{◌≡◌, ℕ, eqb, leb, List, [], ◌∷◌, Some, None, Option, unwrap_or, refl, inl, inr}
use Rattle.std.proofs.lemmas.Bool.{and_parts, cases_Bool, leb-true, not-false}
use Rattle.rules.specs.Calls.{Call, lay, direction, starter, home, put_on, withdraw, advance, follow, fail, mend}
use Rattle.rules.specs.Calls.{close, hand_in, ask_signal, ask_name, paint, rows, verdict, effect, line_after}
use Rattle.rules.specs.Calls.{some_station, train_index, train_of, standing, front_moved, rear_moved, with_levers}
use Rattle.rules.specs.Detection.{legal_axles}
use Rattle.rules.specs.LineRuns.{after_all}
use Rattle.rules.specs.Lines.{Line, blocks}
use Rattle.rules.specs.Signals.{Shows}
use Rattle.rules.specs.Table.{after, within}
use Rattle.rules.specs.declared.line.Levers.{Levers}
use Rattle.rules.specs.declared.line.Station.{Station}
use Rattle.rules.specs.declared.line.Station.TheVariants.{EndA, EndB}
use Rattle.rules.specs.declared.line.Train.{Train}
use Rattle.rules.specs.declared.refusal.Refusal.{Refusal}
use Rattle.rules.proofs.Rows.{none_hold}
use Rattle.promises.proofs.Numbers.{Distinct, put_on_distinct, removed_distinct, set_distinct}

pub same_number : (line : Line) (train : Train) → (rear_moved line train).number ≡ train.number
same_number line train = elim (cases_Bool (eqb train.rear (blocks line))) [ inl e ↦ rw e | inr e ↦ rw e ]

levers_distinct : (line : Line) (station : Station) (levers : Levers) → Distinct line.trains
    → Distinct (with_levers line station levers).trains
levers_distinct line EndA levers d = d
levers_distinct line EndB levers d = d

kept : (shows : Shows) (mark : ℕ → ℕ) (line : Line) (c : Call) → verdict shows line c ≡ None → Distinct line.trains
    → Distinct (effect mark line c).trains
kept shows mark line (lay laying plan) none d = d
kept shows mark line (direction n send) none d = levers_distinct line (some_station n) _ d
kept shows mark line (starter n road) none d = levers_distinct line (some_station n) _ d
kept shows mark line (home n road) none d = levers_distinct line (some_station n) _ d
kept shows mark line (put_on number axles n road) none d =
    let passed = none_hold (rows shows line (put_on number axles n road)) none in
    let card = and_parts (within 1 9999 number) (legal_axles axles) (not-false _ passed.1.1.1.0) in
    let low = leb-true 1 number (and_parts (leb 1 number) (leb number 9999) card.0).0 in
    put_on_distinct line.trains (standing number axles (some_station n) road) low passed.1.1.1.1.0 d
kept shows mark line (withdraw number) none d = removed_distinct line.trains (unwrap_or (train_index line number) 0) d
kept shows mark line (advance number) none d =
    set_distinct line.trains (unwrap_or (train_index line number) 0) (front_moved line (train_of line number)) refl d
kept shows mark line (follow number) none d =
    set_distinct line.trains (unwrap_or (train_index line number) 0) (rear_moved line (train_of line number))
    (same_number line (train_of line number)) d
kept shows mark line (fail s) none d = d
kept shows mark line (mend s) none d = d
kept shows mark line (close block) none d = d
kept shows mark line (hand_in number block) none d = d
kept shows mark line (ask_signal n place) none d = d
kept shows mark line (ask_name name) none d = d
kept shows mark line (paint bytes) none d = d

pub distinct_after : (shows : Shows) (mark : ℕ → ℕ) (line : Line) (c : Call) → Distinct line.trains
    → Distinct (line_after shows mark line c).trains
distinct_after shows mark line c d = by_verdict (verdict shows line c) refl where
  by_verdict : (met : Option Refusal) → verdict shows line c ≡ met
      → Distinct (after met line (effect mark line c)).trains
  by_verdict None e = kept shows mark line c e d
  by_verdict (Some refusal) e = d

pub distinct_always : (shows : Shows) (mark : ℕ → ℕ) (line : Line) (calls : List Call) → Distinct line.trains
    → Distinct (after_all shows mark line calls).trains
distinct_always shows mark line [] d = d
distinct_always shows mark line (c ∷ calls) d =
    distinct_always shows mark (line_after shows mark line c) calls (distinct_after shows mark line c d)
