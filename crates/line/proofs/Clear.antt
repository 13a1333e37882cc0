-- The run of clear blocks ahead of a signal, block by block.
use Rattle.std.proofs.Common.{◌≡◌, ℕ, zero, suc, ◌+◌, ◌-◌, ◌≤◌, Bool, true, false, cond, eqb, refl, ap, inl, inr, arith}
use Rattle.std.proofs.lemmas.Bool.{cases_Bool, eqb-true, le-leb}
use Rattle.std.specs.List.{prefix_len, range_with_len}
use Rattle.rules.specs.Lines.{Line, blocks, clear}
use Rattle.rules.specs.Signals.{clear_run, count_at}
use Rattle.rules.specs.Stations.{place_from}
use Rattle.rules.specs.declared.line.Station.{Station}

-- the run is counted as the blocks are asked one after the other
pub run_counted : (line : Line) (station : Station) (d n : ℕ)
    → prefix_len (λ k. clear line (place_from (blocks line) station k)) (range_with_len d n)
    ≡ clear_run line station d n
run_counted line station d zero = refl
run_counted line station d (suc n) =
    ap (λ run. cond (clear line (place_from (blocks line) station d)) (1 + run) 0) (run_counted line station (d + 1) n)

-- a count or none is no longer than the count
or_none : (b : Bool) (count n : ℕ) → count ≤ n → cond b count 0 ≤ n
or_none true count n short = short
or_none false count n short = omega arith

pub run_short : (line : Line) (station : Station) (d n : ℕ) → clear_run line station d n ≤ n
run_short line station d zero = omega arith
run_short line station d (suc n) =
    or_none (clear line (place_from (blocks line) station d)) (1 + clear_run line station (d + 1) n) (suc n)
    (omega (arith, run_short line station (d + 1) n))

-- so what is clear ahead of a signal before a block lies within the line
pub count_short : (line : Line) (station : Station) (d : ℕ) → d ≤ blocks line
    → count_at line station d ≤ (blocks line + 1) - d
count_short line station d short =
    elim (cases_Bool (eqb d 1)) [
      | inl e ↦
          let starter : d ≡ 1 = eqb-true d 1 e in
          rw starter (or_none _ _ _ (run_short line station 1 _))
      | inr e ↦ rw (e, le-leb d (blocks line) short) (or_none _ _ _ (run_short line station d _))
    ]
