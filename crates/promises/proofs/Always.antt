-- What always holds: on a new line, after any call, after every list of calls.
use Rattle.std.proofs.Common.{◌≡◌, ℕ, ◌-◌, ◌≤◌, Bool, true, false, cond, not, ◌&&◌, eqb, ltb, leb, List, [], ◌∷◌}
use Rattle.std.proofs.Common.{length, set, Some, None, Option, refl, inl, inr, arith}
use Rattle.std.proofs.lemmas.Bool.{and_parts, or_parts, both_ways, not-false, ltb-false, eqb-false, leb-true, le-leb}
use Rattle.std.proofs.lemmas.Bool.{and_from}
use Rattle.rules.specs.Calls.{Call, lay, direction, starter, home, put_on, withdraw, advance, follow, fail, mend}
use Rattle.rules.specs.Calls.{close, hand_in, ask_signal, ask_name, paint, rows, verdict, effect, line_after}
use Rattle.rules.specs.Calls.{some_station, with_closed, good_plan, all_clear}
use Rattle.rules.specs.Calls.{reversed, with_levers, turned}
use Rattle.rules.specs.Detection.{legal_axles, legal_section}
use Rattle.rules.specs.LineRuns.{after_all}
use Rattle.rules.specs.Lines.{Line, new_line, bare, blocks, roads, levers_at, sends}
use Rattle.promises.specs.Promises.{LawfulLamps}
use Rattle.rules.specs.Signals.{Shows}
use Rattle.rules.specs.Stations.{other_end}
use Rattle.rules.specs.Table.{after, within}
use Rattle.rules.specs.TrackRuns.{Lawful}
use Rattle.rules.specs.declared.detection.Cell.{Cell}
use Rattle.rules.specs.declared.detection.TrackCall.TheVariants.{Fail, Mend}
use Rattle.rules.specs.declared.line.Station.{Station}
use Rattle.rules.specs.declared.refusal.Refusal.{Refusal}
use Rattle.promises.specs.Sound.{Agree, Blank, Kept, Sound}
use Rattle.promises.proofs.Agreement.{failed_kept, mended_kept, shut_kept, opened_kept}
use Rattle.promises.proofs.Bare.{only_laying}
use Rattle.promises.proofs.LayingCall.{laid_sound}
use Rattle.promises.proofs.LeverCalls.{turned_to_send, turned_to_receive, starter_changed, home_changed}
use Rattle.rules.proofs.Rows.{none_hold}
use Rattle.promises.proofs.Sound.{clear_empty}
use Rattle.promises.proofs.TrainCalls.{followed_on, withdrawn, advanced_on, put_on_road, moved_on}

pub from_bare : (shows : Shows) (mark : ℕ → ℕ) (line : Line) → Blank line → (c : Call) → verdict shows line c ≡ None
    → Kept mark (effect mark line c)
from_bare shows mark line blank =
    only_laying shows line blank (λ c. Kept mark (effect mark line c)) (λ laying plan none.
    let passed = none_hold (rows shows line (lay laying plan)) none in
    inr (laid_sound mark line laying plan blank (not-false (good_plan line laying plan) passed.1.0)))

legal_block : (n block : ℕ) → n ≤ 16 → within 1 n block ≡ true → (1 ≤ block) × (legal_section block ≡ true)
legal_block n block most h =
    let both = and_parts (leb 1 block) (leb block n) h in
    let low = leb-true 1 block both.0 in
    let high = leb-true block n both.1 in
    (low, and_from _ _ (le-leb 1 block low) (le-leb block 24 (omega arith)))

module _ (shows : Shows) (lamps : LawfulLamps shows) (mark : ℕ → ℕ) (lawful : Lawful mark) (line : Line)
    (sound : Sound mark line) where
  direction_kept : (station : Station) (send : Bool) → (send && sends line (other_end station)) ≡ false
      → reversed (cond send (levers_at line station).home (levers_at line station).starter) ≡ false
      → (not send && not (all_clear line (blocks line))) ≡ false
      → Sound mark (with_levers line station (turned (levers_at line station) send))
  direction_kept station true far lock unblocked = turned_to_send mark lawful line sound station far lock
  direction_kept station false far lock unblocked =
      turned_to_receive mark lawful line sound station (not-false (all_clear line (blocks line)) unblocked) lock

  -- closings changed, and all else as it was
  closed_kept : (block : ℕ) (shut : Bool)
      → Agree mark (blocks line) line.trains (set line.closed (block - 1) shut) line.cells
      → Sound mark (with_closed line block shut)
  closed_kept block shut agree = record {
    laid = sound.laid;
    limits = sound.limits;
    reach_low = sound.reach_low;
    reach_high = sound.reach_high;
    fits = sound.fits;
    agree = agree;
    way = sound.way;
    levers = sound.levers;
    one_way = sound.one_way;
  }

  -- failing and mending tell the track, and move no train
  pub from_laid : (c : Call) → verdict shows line c ≡ None → Sound mark (effect mark line c)
  from_laid (lay laying plan) none =
      let passed = none_hold (rows shows line (lay laying plan)) none in
      absurd (both_ways _ sound.laid (not-false (bare line) passed.0))
  from_laid (direction n send) none =
      let passed = none_hold (rows shows line (direction n send)) none in
      direction_kept (some_station n) send passed.1.1.1.0 passed.1.1.1.1.0 passed.1.1.1.1.1.0
  from_laid (starter n road) none =
      let passed = none_hold (rows shows line (starter n road)) none in
      starter_changed mark lawful line sound (some_station n) road (ltb-false _ _ passed.1.1.0)
      passed.1.1.1.1.0
  from_laid (home n road) none =
      let passed = none_hold (rows shows line (home n road)) none in
      home_changed mark lawful line sound (some_station n) road (ltb-false _ _ passed.1.1.0)
      passed.1.1.1.1.0
  from_laid (put_on number axles n road) none =
      let passed = none_hold (rows shows line (put_on number axles n road)) none in
      let road_in = or_parts (eqb road 0) (ltb (roads line (some_station n)) road) passed.1.1.0 in
      let not_0 : road ≡ 0 → ⊥ = eqb-false road 0 road_in.0 in
      let card = and_parts (within 1 9999 number) (legal_axles axles) (not-false _ passed.1.1.1.0) in
      (put_on_road shows lamps mark lawful line sound number axles (some_station n) road (omega (arith, not_0))
      (ltb-false _ _ road_in.1) card.1 (not-false _ passed.1.1.1.1.1.0)).sound
  from_laid (withdraw number) none =
      let passed = none_hold (rows shows line (withdraw number)) none in
      (withdrawn shows lamps mark lawful line sound number passed.1.0 (not-false _ passed.1.1.0)).sound
  from_laid (advance number) none =
      let passed = none_hold (rows shows line (advance number)) none in
      let going = passed.1.1.1.0 in
      (advanced_on shows lamps mark lawful line sound number passed.1.0 going (rw going at passed.1.1.0)).sound
  from_laid (follow number) none =
      let passed = none_hold (rows shows line (follow number)) none in
      (followed_on shows lamps mark lawful line sound number passed.1.0 passed.1.1.0).sound
  from_laid (fail s) none =
      moved_on shows lamps mark lawful line sound line.trains (Fail s) sound.fits sound.way
      (failed_kept mark (blocks line) line.trains line.closed line.cells s sound.agree)
  from_laid (mend s) none =
      moved_on shows lamps mark lawful line sound line.trains (Mend s) sound.fits sound.way
      (mended_kept mark (blocks line) line.trains line.closed line.cells s sound.agree)
  from_laid (close block) none =
      let passed = none_hold (rows shows line (close block)) none in
      let block_in = legal_block (blocks line) block sound.limits.most (not-false _ passed.1.0) in
      closed_kept block true
      (shut_kept mark (blocks line) line.trains line.closed line.cells block block_in.0
      (clear_empty mark lawful line sound block block_in.1 (not-false _ passed.1.1.0)) sound.agree)
  from_laid (hand_in number block) none =
      closed_kept block false
      (opened_kept mark (blocks line) line.trains line.closed line.cells block sound.agree)
  from_laid (ask_signal n place) none = sound
  from_laid (ask_name name) none = sound
  from_laid (paint bytes) none = sound

module _ (shows : Shows) (lamps : LawfulLamps shows) (mark : ℕ → ℕ) (lawful : Lawful mark) where
  pub after_any : (line : Line) (c : Call) → Kept mark line → Kept mark (line_after shows mark line c)
  after_any line c kept = by_verdict (verdict shows line c) refl where
    by_verdict : (met : Option Refusal) → verdict shows line c ≡ met → Kept mark (after met line (effect mark line c))
    by_verdict (Some refusal) e = kept
    by_verdict None e =
        elim kept [
          | inl blank ↦ from_bare shows mark line blank c e
          | inr sound ↦ inr
              (from_laid shows lamps mark lawful line sound c e)
        ]

  after_every : (line : Line) (calls : List Call) → Kept mark line → Kept mark (after_all shows mark line calls)
  after_every line [] kept = kept
  after_every line (c ∷ calls) kept = after_every (line_after shows mark line c) calls (after_any line c kept)

  pub always : (cells : List Cell) → length cells ≡ 24 → (calls : List Call)
      → Kept mark (after_all shows mark (new_line cells) calls)
  always cells sized calls = after_every (new_line cells) calls (inl (record {
    none_laid = refl;
    no_trains = refl;
    all_open = refl;
    levers_a = refl;
    levers_b = refl;
    sized = sized;
  }))
