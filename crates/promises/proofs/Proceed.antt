-- Where a signal has something to offer, the section that it guards is clear.
use Rattle.std.proofs.Common.{◌≡◌, ℕ, zero, suc, ◌+◌, ◌≤◌, Bool, true, false, cond, not, ◌&&◌, eqb, leb, refl, inl}
use Rattle.std.proofs.Common.{inr, arith}
use Rattle.std.proofs.lemmas.Bool.{and_parts, cases_Bool, both_ways, le-leb, lt-leb, ne_eqb, eqb-true}
use Rattle.rules.specs.Calls.{reversed}
use Rattle.rules.specs.Lines.{Line, blocks, laying_of, levers_at, sends, clear}
use Rattle.rules.specs.Signals.{clear_run, run_ahead, home_count, home_section, count_at}
use Rattle.rules.specs.Stations.{place_from, other_end}
use Rattle.rules.specs.declared.line.Station.{Station}
use Rattle.promises.proofs.OneWay.{no_count}

-- a number that is not 0 came from the first of two
not_from_none : (b : Bool) (x : ℕ) → eqb (cond b x 0) 0 ≡ false → (b ≡ true) × (eqb x 0 ≡ false)
not_from_none true x h = (refl, h)
not_from_none false x h = absurd (both_ways true h refl)

run_clear : (line : Line) (station : Station) (d fuel : ℕ) → eqb (clear_run line station d fuel) 0 ≡ false
    → clear line (place_from (blocks line) station d) ≡ true
run_clear line station d zero h = absurd (both_ways true h refl)
run_clear line station d (suc fuel) h =
    (not_from_none (clear line (place_from (blocks line) station d)) (1 + clear_run line station (d + 1) fuel) h).0

pub offers_sends : (line : Line) (station : Station) (d : ℕ) → eqb (count_at line station d) 0 ≡ false
    → sends line station ≡ true
offers_sends line station d h =
    elim (cases_Bool (sends line station)) [
      | inl e ↦ e
      | inr silent ↦ absurd (both_ways true (rw (no_count line station d silent) at h) refl)
    ]

-- of a starter or a block signal, the block
pub block_offered : (line : Line) (station : Station) (d : ℕ) → d ≤ blocks line
    → eqb (count_at line station d) 0 ≡ false
    → clear line (place_from (blocks line) station d) ≡ true
block_offered line station d high h =
    elim (cases_Bool (eqb d 1)) [
      | inl first ↦
          let same : d ≡ 1 = eqb-true d 1 first in
          let ready = sends line station && not (eqb (levers_at line station).starter 0)
          && leb (laying_of line).reach (run_ahead line station 1) in
          rw same (run_clear line station 1 _ (not_from_none ready (run_ahead line station 1) (rw first at h)).1)
      | inr later ↦
          run_clear line station d _
          (not_from_none (sends line station) (run_ahead line station d)
          (rw (later, le-leb d (blocks line) high) at h)).1
    ]

-- of a home, the road, for which it is reversed
pub home_offered : (line : Line) (station : Station) → 1 ≤ blocks line
    → eqb (count_at line station (blocks line + 1)) 0 ≡ false
    → (clear line (home_section line station) ≡ true) × (reversed (levers_at line (other_end station)).home ≡ true)
home_offered line station some h =
    let n = blocks line in
    let set = reversed (levers_at line (other_end station)).home in
    let ready = sends line station && set in
    let offered : eqb (home_count line station) 0 ≡ false =
    rw (ne_eqb (n + 1) 1 (λ e. omega arith), lt-leb (n + 1) n (omega arith)) at h in
    let both = and_parts ready (clear line (home_section line station)) (not_from_none _ 1 offered).0 in
    (both.1, (and_parts (sends line station) set both.0).1)
