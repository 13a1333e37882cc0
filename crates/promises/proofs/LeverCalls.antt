-- Direction, starter and home: what always holds goes on holding.
use Rattle.std.proofs.Common.{◌≡◌, ℕ, zero, suc, ◌<◌, ◌≤◌, true, false, cond, not, ◌&&◌, eqb, length, get_or, refl}
use Rattle.std.proofs.Common.{◌∙◌, inl, inr, arith}
use Rattle.std.proofs.ByRecursion.{All-get_or, All-from_get_or, All-weaker}
use Rattle.std.proofs.lemmas.List.Sums.{get_or-le-sum_by}
use Rattle.std.proofs.lemmas.Bool.{and_parts, cases_Bool, cases_eq, both_ways, eqb-true, eqb-false, not-false}
use Rattle.std.specs.List.{AllByRecursion}
use Rattle.rules.specs.Calls.{all_clear, reversed, no_train, with_levers, turned, starter_put, home_put}
use Rattle.rules.specs.Lines.{Line, blocks, roads, levers_at, sends, clear, section_of}
use Rattle.rules.specs.Stations.{other_end}
use Rattle.rules.specs.TrackRuns.{Lawful}
use Rattle.rules.specs.declared.line.Levers.{Levers}
use Rattle.rules.specs.declared.line.Station.{Station}
use Rattle.rules.specs.declared.line.Station.TheVariants.{EndA, EndB}
use Rattle.rules.specs.declared.line.Train.{Train}
use Rattle.promises.specs.Sound.{Away, Fits, LeversRight, Sound, times}
use Rattle.promises.proofs.Fits.{in_block, block_bounds, sections_legal}
use Rattle.promises.proofs.OneWay.{turned_keeps, same_way}
use Rattle.promises.proofs.Sound.{clear_empty, stands_between}

-- every block is clear where all are
each_clear : (line : Line) (n k : ℕ) → all_clear line n ≡ true → 1 ≤ k → k ≤ n → clear line k ≡ true
each_clear line zero k h low high = absurd (omega arith)
each_clear line (suc n) k h low high =
    let parts = and_parts (clear line (suc n)) (all_clear line n) h in
    elim (cases_eq k (suc n)) [
      | inl e ↦ rw e parts.0
      | inr other ↦ each_clear line n k parts.1 low
          (omega arith)
    ]

-- the block that a train away from its station holds, counted from there
abbrev pub held_block : Train → ℕ
held_block train = cond (eqb train.rear 0) 1 train.rear

pub holds_block : (n : ℕ) (roads : Station → ℕ) (train : Train) → 1 ≤ n → Fits n roads train → 1 ≤ train.front
    → (1 ≤ held_block train) × (held_block train ≤ n) × (train.rear ≤ held_block train) ×
    (held_block train ≤ train.front)
holds_block n roads train some fit out =
    elim (cases_Bool (eqb train.rear 0)) [
      | inl e ↦ let at : train.rear ≡ 0 = eqb-true _ 0 e in rw e (omega arith, omega arith, omega arith, omega arith)
      | inr e ↦
          let on : train.rear ≡ 0 → ⊥ = eqb-false _ 0 e in
          rw e (omega (arith, on), fit.rear_out, omega arith, fit.behind)
    ]

module _ (mark : ℕ → ℕ) (lawful : Lawful mark) (line : Line) (sound : Sound mark line) where
  -- where all blocks are clear, no train is away
  pub none_away : all_clear line (blocks line) ≡ true → (i : ℕ) → i < length line.trains
      → 1 ≤ (get_or line.trains i no_train).front → ⊥
  none_away all i in_list out =
      let n = blocks line in
      let train = get_or line.trains i no_train in
      let fit = All-get_or (Fits n (roads line)) line.trains i no_train in_list sound.fits in
      let d = held_block train in
      let block = holds_block n (roads line) train sound.limits.some fit out in
      let at = in_block n train d block.0 block.1 in
      let s = section_of n train d in
      let bounds = block_bounds n d train.from block.0 block.1 in
      let legal = sections_legal n (roads line) train sound.limits fit d block.3 in
      let is_clear : clear line s ≡ true = rw at (each_clear line n _ all bounds.0 bounds.1) in
      let here = stands_between n train d block.2 block.3 in
      let told = get_or-le-sum_by (times n s) line.trains i no_train in_list in
      omega (arith, clear_empty mark lawful line sound s legal is_clear)

  -- levers of one station changed
  module _ (station : Station) (new : Levers) where
    abbrev then : Line
    then = with_levers line station new

    -- where the changed levers are right, those of both stations are
    both_right : LeversRight (roads line station) new → (end : Station)
        → LeversRight (roads then end) (levers_at then end)
    both_right right end = by_ends station end right where
      by_ends : (changed end : Station) → LeversRight (roads line changed) new
          → LeversRight (roads (with_levers line changed new) end) (levers_at (with_levers line changed new) end)
      by_ends EndA EndA ok = ok
      by_ends EndA EndB ok = sound.levers EndB
      by_ends EndB EndA ok = sound.levers EndA
      by_ends EndB EndB ok = ok

    -- the changed levers right, the trains away from a station that still sends, and not both sending
    pub levers_changed : LeversRight (roads line station) new → AllByRecursion (Away then) line.trains
        → (sends then EndA && sends then EndB) ≡ false → Sound mark then
    levers_changed right way one_way = by_end station way one_way (both_right right) where
      by_end : (changed : Station) → AllByRecursion (Away (with_levers line changed new)) line.trains
          → (sends (with_levers line changed new) EndA && sends (with_levers line changed new) EndB) ≡ false
          → ((end : Station)
          → LeversRight (roads (with_levers line changed new) end) (levers_at (with_levers line changed new) end))
          → Sound mark (with_levers line changed new)
      by_end EndA way one_way right = record {
        laid = sound.laid;
        limits = sound.limits;
        reach_low = sound.reach_low;
        reach_high = sound.reach_high;
        fits = sound.fits;
        agree = sound.agree;
        way = way;
        levers = right;
        one_way = one_way;
      }
      by_end EndB way one_way right = record {
        laid = sound.laid;
        limits = sound.limits;
        reach_low = sound.reach_low;
        reach_high = sound.reach_high;
        fits = sound.fits;
        agree = sound.agree;
        way = way;
        levers = right;
        one_way = one_way;
      }

    -- a station that sent still sends, where the changed one does
    still_sends : (from : Station) → new.sends ≡ true → sends line from ≡ true → sends then from ≡ true
    still_sends from now before = by_ends station from before where
      by_ends : (end from : Station) → sends line from ≡ true → sends (with_levers line end new) from ≡ true
      by_ends EndA EndA h = now
      by_ends EndA EndB h = h
      by_ends EndB EndA h = h
      by_ends EndB EndB h = now

    unchanged_way : new.sends ≡ sends line station → (from : Station) → sends line from ≡ true
        → sends then from ≡ true
    unchanged_way same from before = by_ends station from same before where
      by_ends : (end from : Station) → new.sends ≡ sends line end → sends line from ≡ true
          → sends (with_levers line end new) from ≡ true
      by_ends EndA EndA e h = e ∙ h
      by_ends EndA EndB e h = h
      by_ends EndB EndA e h = h
      by_ends EndB EndB e h = e ∙ h

    way_kept : ((from : Station) → sends line from ≡ true → sends then from ≡ true)
        → AllByRecursion (Away then) line.trains
    way_kept keeps =
        All-weaker (Away line) (Away then) (λ train away out. keeps train.from (away out)) line.trains
        sound.way

  -- turning to send, and to receive
  pub turned_to_send : (station : Station) → (true && sends line (other_end station)) ≡ false
      → reversed (levers_at line station).home ≡ false
      → Sound mark (with_levers line station (turned (levers_at line station) true))
  turned_to_send station far home_normal =
      let new = turned (levers_at line station) true in
      levers_changed station new
      (record {
        starter_high = (sound.levers station).starter_high;
        home_high = (sound.levers station).home_high;
        starter_way = λ _. refl;
        home_way = λ h. absurd (both_ways _ home_normal h);
      })
      (way_kept station new (λ from before. still_sends station new from refl before))
      (turned_keeps line station true far)

  pub turned_to_receive : (station : Station) → all_clear line (blocks line) ≡ true
      → reversed (levers_at line station).starter ≡ false
      → Sound mark (with_levers line station (turned (levers_at line station) false))
  turned_to_receive station all starter_normal =
      let new = turned (levers_at line station) false in
      levers_changed station new
      (record {
        starter_high = (sound.levers station).starter_high;
        home_high = (sound.levers station).home_high;
        starter_way = λ h. absurd (both_ways _ starter_normal h);
        home_way = λ _. refl;
      })
      (All-from_get_or (Away (with_levers line station new)) line.trains no_train
      (λ i in_list out. absurd (none_away all i in_list out)))
      (turned_keeps line station false refl)

  -- a starter or a home put to normal or to a road
  pub starter_changed : (station : Station) (road : ℕ) → road ≤ roads line station
      → (reversed road && not (sends line station)) ≡ false
      → Sound mark (with_levers line station (starter_put (levers_at line station) road))
  starter_changed station road high way =
      let new = starter_put (levers_at line station) road in
      levers_changed station new
      (record {
        starter_high = high;
        home_high = (sound.levers station).home_high;
        starter_way = λ set. not-false (sends line station) (rw set at way);
        home_way = (sound.levers station).home_way;
      })
      (way_kept station new (unchanged_way station new refl))
      (same_way line station new refl sound.one_way)

  pub home_changed : (station : Station) (road : ℕ) → road ≤ roads line station
      → (reversed road && sends line station) ≡ false
      → Sound mark (with_levers line station (home_put (levers_at line station) road))
  home_changed station road high way =
      let new = home_put (levers_at line station) road in
      levers_changed station new
      (record {
        starter_high = (sound.levers station).starter_high;
        home_high = high;
        starter_way = (sound.levers station).starter_way;
        home_way = λ set. rw set at way;
      })
      (way_kept station new (unchanged_way station new refl))
      (same_way line station new refl sound.one_way)
