-- Laying makes a bare line one of which all holds that always holds of a laid line.
use Rattle.std.proofs.Common.{◌≡◌, ℕ, zero, suc, ◌+◌, ◌-◌, ◌≤◌, true, false, eqb, leb, List, length, get_or, refl}
use Rattle.std.proofs.Common.{inl, inr, arith}
use Rattle.std.proofs.lemmas.List.{get_or-replicate, get_or_past, length-replicate}
use Rattle.std.proofs.lemmas.Bool.{and_parts, leb-true, cases_lt, cases_eq, both_ways, eqb-true}
use Rattle.rules.specs.Calls.{good_plan, all_vacant, legal_entries, names_differ, as_laid}
use Rattle.rules.specs.Detection.{cell_of}
use Rattle.rules.specs.Lines.{Line, all_open, new_levers, roads_of, levers_at, state_at, roads}
use Rattle.rules.specs.Table.{within}
use Rattle.rules.specs.declared.line.Laying.{Laying}
use Rattle.rules.specs.declared.line.Levers.{Levers}
use Rattle.rules.specs.declared.line.PlanEntry.{PlanEntry}
use Rattle.rules.specs.declared.line.Station.{Station}
use Rattle.rules.specs.declared.line.Station.TheVariants.{EndA, EndB}
use Rattle.promises.specs.Sound.{Blank, LeversRight, Sound}
use Rattle.rules.proofs.TrackRuns.{in_reach, vacant_holds_none}

pub within_limits : (low high n : ℕ) → within low high n ≡ true → (low ≤ n) × (n ≤ high)
within_limits low high n h =
    let both = and_parts (leb low n) (leb n high) h in
    (leb-true low n both.0, leb-true n high both.1)

each_vacant : (line : Line) (n k : ℕ) → all_vacant line n ≡ true → 1 ≤ k → k ≤ n → state_at line k ≡ 0
each_vacant line zero k h low high = absurd (omega arith)
each_vacant line (suc n) k h low high =
    let parts = and_parts (eqb (state_at line (suc n)) 0) (all_vacant line n) h in
    elim (cases_eq k (suc n)) [
      | inl e ↦ rw e (eqb-true _ 0 parts.0)
      | inr other ↦ each_vacant line n k parts.1 low (omega arith)
    ]

never_shut : (k : ℕ) → get_or all_open k false ≡ false
never_shut k =
    elim (cases_lt k 16) [
      | inl l ↦ get_or-replicate 16 k false false l
      | inr past ↦ get_or_past all_open k false (omega (arith, length-replicate 16 false))
    ]

-- the parts of a good plan that the line lives by
record Good (line : Line) (laying : Laying) : Type 0 where
  blocks_in : within 1 16 laying.blocks ≡ true
  roads_a_in : within 1 4 (roads_of laying EndA) ≡ true
  roads_b_in : within 1 4 (roads_of laying EndB) ≡ true
  reach_in : within 1 laying.blocks laying.reach ≡ true
  vacant : all_vacant line 24 ≡ true

good_parts : (line : Line) (laying : Laying) (plan : List PlanEntry) → good_plan line laying plan ≡ true
    → Good line laying
good_parts line laying plan h =
    let track = and_parts _ (all_vacant line 24) h in
    let names = and_parts _ (names_differ plan) track.0 in
    let entries = and_parts _ (legal_entries plan) names.0 in
    let count =
    and_parts _ (eqb (length plan) (laying.blocks + roads_of laying EndA + roads_of laying EndB)) entries.0 in
    let number = and_parts _ (within 1 9999 laying.number) count.0 in
    let reach = and_parts _ (within 1 laying.blocks laying.reach) number.0 in
    let b = and_parts _ (within 1 4 (roads_of laying EndB)) reach.0 in
    let a = and_parts (within 1 16 laying.blocks) (within 1 4 (roads_of laying EndA)) b.0 in
    record { blocks_in = a.0; roads_a_in = a.1; roads_b_in = b.1; reach_in = reach.1; vacant = track.1 }

few_roads : (line : Line) (laying : Laying) → Good line laying → (station : Station) → roads_of laying station ≤ 4
few_roads line laying good EndA = (within_limits 1 4 (roads_of laying EndA) good.roads_a_in).1
few_roads line laying good EndB = (within_limits 1 4 (roads_of laying EndB) good.roads_b_in).1

-- new levers are right at any station
normal_right : (roads : ℕ) (levers : Levers) → levers ≡ new_levers → LeversRight roads levers
normal_right roads levers e = record {
  starter_high = rw e (omega arith);
  home_high = rw e (omega arith);
  starter_way = λ h. absurd (both_ways false refl (rw e at h));
  home_way = λ h. absurd (both_ways false refl (rw e at h));
}

pub laid_sound : (mark : ℕ → ℕ) (line : Line) (laying : Laying) (plan : List PlanEntry) → Blank line
    → good_plan line laying plan ≡ true → Sound mark (as_laid line laying plan)
laid_sound mark line laying plan blank h =
    let good = good_parts line laying plan h in
    let n = within_limits 1 16 laying.blocks good.blocks_in in
    let reach = within_limits 1 laying.blocks laying.reach good.reach_in in
    record {
      laid = refl;
      limits = record { some = n.0; most = n.1; few = few_roads line laying good };
      reach_low = reach.0;
      reach_high = reach.1;
      fits = rw blank.no_trains tt;
      agree = rw (blank.no_trains, blank.all_open) (record {
        sized = blank.sized;
        one = λ s legal. omega arith;
        held = λ s legal.
            vacant_holds_none (cell_of line.cells s)
            (each_vacant line 24 s good.vacant (in_reach s legal).0 (in_reach s legal).1);
        unshut = λ s legal shut. absurd (both_ways _ (never_shut (s - 1)) shut);
      });
      way = rw blank.no_trains tt;
      levers = λ station. by_end station;
      one_way = rw blank.levers_a;
    } where
      by_end : (station : Station)
          → LeversRight (roads (as_laid line laying plan) station) (levers_at (as_laid line laying plan) station)
      by_end EndA = normal_right laying.roads_a line.at_a blank.levers_a
      by_end EndB = normal_right laying.roads_b line.at_b blank.levers_b
