-- There is a foremost train, and nothing stands ahead of it.
use Rattle.std.proofs.Common.{◌≡◌, ℕ, zero, suc, ◌+◌, ◌-◌, ◌<◌, ◌≤◌, true, false, ◌&&◌, List, [], ◌∷◌, length, get_or}
use Rattle.std.proofs.Common.{refl, ◌∙◌, inl, inr, add-zero, arith}
use Rattle.std.proofs.ByRecursion.{All-get_or}
use Rattle.std.proofs.lemmas.List.Sums.{sum_by-cons}
use Rattle.std.proofs.lemmas.Bool.{or_cases, or_left, or_right, cases_lt, cases_eq, both_ways, le-leb, and_from}
use Rattle.std.proofs.lemmas.Bool.{eq-eqb, ne_eqb, not_from_false}
use Rattle.rules.specs.Calls.{no_train}
use Rattle.rules.specs.Detection.{cell_of}
use Rattle.rules.specs.Lines.{Line, blocks, roads, sends, clear, state_at, section_of, holds, holds_from, in_use}
use Rattle.rules.specs.Stations.{place_from, road_section}
use Rattle.rules.specs.Table.{within}
use Rattle.rules.specs.declared.line.Station.{Station}
use Rattle.rules.specs.declared.line.Station.TheVariants.{EndA, EndB}
use Rattle.rules.specs.declared.line.Train.{Train}
use Rattle.promises.specs.Promises.{any_block, train_at, LineInOrder}
use Rattle.promises.specs.Sound.{Away, Fits, Sound, times, times_from, total}
use Rattle.promises.proofs.Fits.{above_16, in_block, block_bounds, is_legal}
use Rattle.promises.proofs.LeverCalls.{held_block, holds_block}
use Rattle.promises.proofs.Totals.{none_weighs_none}

-- the index of the furthest front
pub furthest_front : (trains : List Train) → 1 ≤ length trains
    → (f : ℕ) × (f < length trains)
    × ((j : ℕ) → j < length trains → (get_or trains j no_train).front ≤ (get_or trains f no_train).front)
furthest_front [] h = absurd (omega arith)
furthest_front (train ∷ []) h = (0, omega arith, only) where
  only : (j : ℕ) → j < 1 → (get_or (train ∷ []) j no_train).front ≤ train.front
  only zero l = omega arith
  only (suc j) l = absurd (omega arith)
furthest_front (train ∷ (second ∷ trains)) h =
    let best = furthest_front (second ∷ trains) (omega arith) in
    elim (cases_lt train.front (get_or (second ∷ trains) best.0 no_train).front) [
      | inl less ↦ (suc best.0, omega (arith, best.1), λ j l. later best.0 best.2 (omega arith) j l)
      | inr more ↦ (0, omega arith, λ j l. first best.0 best.2 more j l)
    ] where
      later : (f : ℕ)
          → ((j : ℕ) → j < length (second ∷ trains) → (get_or (second ∷ trains) j no_train).front ≤ (get_or (second
          ∷ trains) f no_train).front)
          → train.front ≤ (get_or (second ∷ trains) f no_train).front → (j : ℕ) → j < length (train ∷ (second ∷ trains))
          → (get_or (train ∷ (second ∷ trains)) j no_train).front ≤ (get_or (second ∷ trains) f no_train).front
      later f best less zero l = less
      later f best less (suc j) l = best j (omega arith)

      first : (f : ℕ)
          → ((j : ℕ) → j < length (second ∷ trains) → (get_or (second ∷ trains) j no_train).front ≤ (get_or (second
          ∷ trains) f no_train).front)
          → (get_or (second ∷ trains) f no_train).front ≤ train.front → (j : ℕ) → j < length (train ∷ (second ∷ trains))
          → (get_or (train ∷ (second ∷ trains)) j no_train).front ≤ train.front
      first f best more zero l = omega arith
      first f best more (suc j) l = omega (arith, best j (omega arith))

-- holding a section from within its stretch
holds_at : (n : ℕ) (train : Train) (d more k : ℕ) → k < more
    → holds_from n train (section_of n train (d + k)) d more ≡ true
holds_at n train d zero k h = absurd (omega arith)
holds_at n train d (suc more) zero h = rw (add-zero d) (or_left _ _ (eq-eqb (section_of n train d) _ refl))
holds_at n train d (suc more) (suc k) h =
    let shift : d + 1 + k ≡ d + suc k = omega arith in
    or_right _ _ (rw shift at (holds_at n train (d + 1) more k (omega arith)))

holds_between : (n : ℕ) (train : Train) (e : ℕ) → train.rear ≤ e → e ≤ train.front
    → holds n train (section_of n train e) ≡ true
holds_between n train e low high =
    let at : train.rear + (e - train.rear) ≡ e = omega arith in
    rw at at (holds_at n train train.rear ((train.front + 1) - train.rear) (e - train.rear) (omega arith))

some_block : (n : ℕ) (train : Train) (k block : ℕ) → 1 ≤ block → block ≤ k → holds n train block ≡ true
    → any_block n train k ≡ true
some_block n train zero block low high h = absurd (omega arith)
some_block n train (suc k) block low high h =
    elim (cases_eq block (suc k)) [
      | inl e ↦ or_left _ _ (rw e at h)
      | inr other ↦ or_right _ _ (some_block n train k block low (omega arith) h)
    ]

-- a train away from its station holds a block
pub away_holds : (n : ℕ) (roads : Station → ℕ) (train : Train) → 1 ≤ n → Fits n roads train → 1 ≤ train.front
    → any_block n train n ≡ true
away_holds n roads train some fit out =
    let d = held_block train in
    let block = holds_block n roads train some fit out in
    let bounds = block_bounds n d train.from block.0 block.1 in
    let at = in_block n train d block.0 block.1 in
    some_block n train n (place_from n train.from d) bounds.0 bounds.1
    (rw at at (holds_between n train d block.2 block.3))

pub some_held : (n : ℕ) (train : Train) (k : ℕ) → any_block n train k ≡ true
    → (block : ℕ) × (1 ≤ block) × (block ≤ k) × (holds n train block ≡ true)
some_held n train zero h = absurd (both_ways false refl h)
some_held n train (suc k) h =
    elim (or_cases (holds n train (suc k)) (any_block n train k) h) [
      | inl here ↦ (suc k, omega arith, omega arith, here)
      | inr later ↦ let at = some_held n train k later in (at.0, at.1, omega (arith, at.2), at.3)
    ]

-- a train that never has a section does not stand in it
absent_from : (n : ℕ) (train : Train) (s d more : ℕ) → ((e : ℕ) → d ≤ e → e < d + more → section_of n train e ≡ s → ⊥)
    → times_from n train s d more ≡ 0
absent_from n train s d zero h = refl
absent_from n train s d (suc more) h =
    rw (ne_eqb (section_of n train d) s (h d (omega arith) (omega arith)))
    (omega (arith, absent_from n train s (d + 1) more (λ e low high. h e (omega arith) (omega arith))))

none_there : (n s : ℕ) (trains : List Train) → ((j : ℕ) → j < length trains → times n s (get_or trains j no_train) ≡ 0)
    → total n s trains ≡ 0
none_there n s [] h = refl
none_there n s (train ∷ trains) h =
    omega (
      arith,
      sum_by-cons (times n s) train trains,
      h 0 (omega arith),
      none_there n s trains (λ j l. h (suc j) (omega arith)),
    )

same_place : (n : ℕ) (station : Station) (e d : ℕ) → 1 ≤ e → e ≤ n → 1 ≤ d → d ≤ n
    → place_from n station e ≡ place_from n station d → e ≡ d
same_place n EndA e d low high low_d high_d h = h
same_place n EndB e d low high low_d high_d h = omega arith

one_sender : (line : Line) (a b : Station) → (sends line EndA && sends line EndB) ≡ false → sends line a ≡ true
    → sends line b ≡ true → a ≡ b
one_sender line EndA EndA h sa sb = refl
one_sender line EndA EndB h sa sb = absurd (both_ways _ h (and_from _ _ sa sb))
one_sender line EndB EndA h sa sb = absurd (both_ways _ h (and_from _ _ sb sa))
one_sender line EndB EndB h sa sb = refl

module _ (mark : ℕ → ℕ) (line : Line) (sound : Sound mark line) (f : ℕ) (on_line : f < length line.trains)
    (out : 1 ≤ (train_at line f).front)
    (furthest : (j : ℕ) → j < length line.trains → (train_at line j).front ≤ (train_at line f).front) where
  abbrev n : ℕ
  n = blocks line

  abbrev leader : Train
  leader = train_at line f

  sender : sends line leader.from ≡ true
  sender = All-get_or (Away line) line.trains f no_train on_line sound.way out

  -- no train stands in a block ahead of it
  none_ahead : (d : ℕ) → leader.front < d → d ≤ n → (j : ℕ) → j < length line.trains
      → times n (place_from n leader.from d) (train_at line j) ≡ 0
  none_ahead d past short j in_list =
      let train = train_at line j in
      let fit = All-get_or (Fits n (roads line)) line.trains j no_train in_list sound.fits in
      let behind = furthest j in_list in
      let bounds = block_bounds n d leader.from (omega arith) short in
      absent_from n train _ train.rear ((train.front + 1) - train.rear) (λ e low high here.
      elim (cases_lt e 1) [
        | inl start ↦
            let at : e ≡ 0 = omega arith in
            let road : road_section train.from train.road ≡ place_from n leader.from d = rw at at here in
            absurd (omega
            (arith, above_16 train.from train.road fit.road_low, bounds.1, sound.limits.most))
        | inr on ↦
            let reach : e ≤ train.front = omega (arith, fit.behind) in
            let way = All-get_or (Away line) line.trains j no_train in_list sound.way (omega arith) in
            let same = one_sender line train.from leader.from sound.one_way way sender in
            let block : e ≤ n = omega arith in
            let at = rw (in_block n train e on block, same) at here in
            absurd (omega (arith, same_place n leader.from e d on block (omega arith) short at))
      ])

  -- and where the line is in order, the blocks ahead of it are clear
  pub clear_before : LineInOrder line → (d : ℕ) → leader.front < d → d ≤ n
      → clear line (place_from n leader.from d) ≡ true
  clear_before order d past short =
      let s = place_from n leader.from d in
      let bounds = block_bounds n d leader.from (omega arith) short in
      let legal = is_legal s bounds.0 (omega (arith, bounds.1, sound.limits.most)) in
      let block : within 1 n s ≡ true = and_from _ _ (le-leb 1 s bounds.0) (le-leb s n bounds.1) in
      let used : in_use line s ≡ true = or_left _ _ (or_left _ _ block) in
      let empty = none_there n s line.trains (none_ahead d past short) in
      let held : (cell_of line.cells s).held ≡ 0 =
      sound.agree.held s legal ∙ none_weighs_none mark n s line.trains empty in
      let vacant : state_at line s ≡ 0 = rw (order.in_order s used, held) in
      and_from _ _ (eq-eqb _ 0 vacant) (not_from_false _ (order.none_closed s block))
