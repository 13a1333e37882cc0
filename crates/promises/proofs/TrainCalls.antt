-- Putting on, withdrawing, advance and follow: the track takes what it is told, and what always holds goes on holding.
use Rattle.std.proofs.Common.{◌≡◌, ℕ, ◌+◌, ◌-◌, ◌*◌, ◌<◌, ◌≤◌, true, false, cond, not, eqb, List, [], ◌∷◌, ◌++◌}
use Rattle.std.proofs.Common.{length, get_or, take, drop, set, is_some, None, sum_by, unwrap_or, sym, refl, ap, ◌∙◌}
use Rattle.std.proofs.Common.{inl, inr, add-zero, add-mul, arith}
use Rattle.std.proofs.ByRecursion.{All-get_or, All-set, All-push, All-append, All-take, All-drop}
use Rattle.std.proofs.lemmas.List.Sums.{sum_by-set, sum_by_push}
use Rattle.std.proofs.lemmas.Bool.{or_parts, cases_Bool, cases_lt, eqb-true, eqb-false, eq-eqb, ne_eqb, not-false}
use Rattle.std.proofs.lemmas.Bool.{not-true}
use Rattle.std.specs.List.{AllByRecursion}
use Rattle.rules.specs.Calls.{withdraw, advance, follow, effect, train_index, train_of, no_train}
use Rattle.rules.specs.Calls.{standing, front_moved, rear_moved, reversed, moved}
use Rattle.rules.specs.Calls.{ended, at_stop}
use Rattle.rules.specs.Detection.{cell_of, legal_section, legal_axles, track_verdict, track_after}
use Rattle.rules.specs.Lines.{Line, blocks, roads, levers_at, clear, section_of, wholly_in}
use Rattle.promises.specs.Promises.{LawfulLamps}
use Rattle.rules.specs.Signals.{Shows, count_at, metres_at}
use Rattle.rules.specs.Stations.{road_section, other_end}
use Rattle.rules.specs.TrackRuns.{Lawful}
use Rattle.rules.specs.declared.detection.TrackCall.{TrackCall}
use Rattle.rules.specs.declared.detection.TrackCall.TheVariants.{Enter, Leave}
use Rattle.rules.specs.declared.line.Station.{Station}
use Rattle.rules.specs.declared.line.Train.{Train}
use Rattle.promises.specs.Sound.{Agree, Away, Fits, Sound, load, one_if, times, times_from, total, weight}
use Rattle.promises.proofs.Agreement.{entered, left}
use Rattle.promises.proofs.Fits.{in_block, in_far_road, sections_legal}
use Rattle.promises.proofs.Found.{found_within}
use Rattle.promises.proofs.Moves.{with_rear, front_on, rear_on, in_at_last}
use Rattle.promises.proofs.Proceed.{offers_sends, block_offered, home_offered}
use Rattle.promises.proofs.Sound.{clear_parts, clear_empty, stands_between}
use Rattle.promises.proofs.Totals.{removed, alone}

-- a train in the place of another, and what that changes in a sum
module _ (mark : ℕ → ℕ) (n : ℕ) (trains : List Train) (i : ℕ) (within : i < length trains) (then : Train) where
  abbrev before : Train
  before = get_or trains i no_train

  swapped : (f : Train → ℕ) → sum_by f (set trains i then) + f before ≡ sum_by f trains + f then
  swapped f = sum_by-set f trains i then no_train within

  pub total_more : (s b : ℕ) → times n s then ≡ times n s before + b
      → total n s (set trains i then) ≡ total n s trains + b
  total_more s b h = omega (arith, swapped (times n s))

  pub load_more : (s b : ℕ) → then.axles ≡ before.axles → times n s then ≡ times n s before + b
      → load mark n s (set trains i then) ≡ load mark n s trains + b * mark before.axles
  load_more s b same h =
      let heavier : weight mark n s then ≡ weight mark n s before + b * mark before.axles =
      rw (h, same) (add-mul (times n s before) b (mark before.axles)) in
      omega (arith, swapped (weight mark n s), heavier)

  pub total_less : (s b : ℕ) → times n s before ≡ b + times n s then
      → total n s trains ≡ total n s (set trains i then) + b
  total_less s b h = omega (arith, swapped (times n s))

  pub load_less : (s b : ℕ) → then.axles ≡ before.axles → times n s before ≡ b + times n s then
      → load mark n s trains ≡ load mark n s (set trains i then) + b * mark before.axles
  load_less s b same h =
      let lighter : weight mark n s before ≡ b * mark before.axles + weight mark n s then =
      rw (h, same) (add-mul b (times n s then) (mark before.axles)) in
      omega (arith, swapped (weight mark n s), lighter)

-- a train that stands is in its road alone
stands_once : (n s : ℕ) (train : Train) → train.rear ≡ 0 → train.front ≡ 0
    → times n s train ≡ one_if (eqb (section_of n train 0) s)
stands_once n s train rear front =
    let one : (train.front + 1) - train.rear ≡ 1 = omega arith in
    ap (times_from n train s train.rear) one ∙ rw rear (add-zero _)

-- a rear moved on, also where the train has then come wholly in
rear_times : (line : Line) (s : ℕ) (train : Train) → train.rear < train.front → train.front ≤ blocks line + 1
    → times (blocks line) s train
    ≡ one_if (eqb (section_of (blocks line) train train.rear) s) + times (blocks line) s (rear_moved line train)
rear_times line s train behind short =
    let n = blocks line in
    elim (cases_Bool (eqb train.rear n)) [
      | inl e ↦
          let last : train.rear ≡ n = eqb-true _ _ e in
          let there : train.front ≡ n + 1 = omega arith in
          rw e (rear_on n s train behind
          ∙ ap (λ t. one_if (eqb (section_of n train train.rear) s) + t)
          (ap (λ r. times n s (with_rear train (r + 1))) last ∙ in_at_last n s train there))
      | inr e ↦ rw e (rear_on n s train behind)
    ]

moved_axles : (line : Line) (train : Train) → (rear_moved line train).axles ≡ train.axles
moved_axles line train =
    elim (cases_Bool (eqb train.rear (blocks line))) [ inl e ↦ rw e | inr e ↦ rw e ]

-- what a call that tells the track of one thing must come to
pub record Told (mark : ℕ → ℕ) (line : Line) (call : TrackCall) (then : Line) : Type 0 where
  pub taken : track_verdict mark line.cells call ≡ None
  pub sound : Sound mark then

module _ (shows : Shows) (lamps : LawfulLamps shows) (mark : ℕ → ℕ) (lawful : Lawful mark) (line : Line)
    (sound : Sound mark line) where
  abbrev n : ℕ
  n = blocks line

  abbrev at_index : ℕ → ℕ
  at_index number = unwrap_or (train_index line number) 0

  -- a line with other trains and cells, and all else as it was
  pub moved_on : (trains : List Train) (call : TrackCall) → AllByRecursion (Fits n (roads line)) trains
      → AllByRecursion (Away line) trains
      → Agree mark n trains line.closed (track_after mark line.cells call)
      → Sound mark (moved mark line trains call)
  moved_on trains call fits way agree = record {
    laid = sound.laid;
    limits = sound.limits;
    reach_low = sound.reach_low;
    reach_high = sound.reach_high;
    fits = fits;
    agree = agree;
    way = way;
    levers = sound.levers;
    one_way = sound.one_way;
  }

  module _ (number : ℕ) (found : not (is_some (train_index line number)) ≡ false) where
    abbrev train : Train
    train = train_of line number

    in_list : at_index number < length line.trains
    in_list =
        found_within (λ t. t.number) number line.trains (not-false (is_some (train_index line number)) found)

    fit : Fits n (roads line) train
    fit = All-get_or (Fits n (roads line)) line.trains (at_index number) no_train in_list sound.fits

    away : Away line train
    away = All-get_or (Away line) line.trains (at_index number) no_train in_list sound.way

    -- the section at the rear holds this train's mark
    mark_there : (cell_of line.cells (section_of n train train.rear)).held ≡ mark train.axles
    mark_there =
        let s = section_of n train train.rear in
        let legal = sections_legal n (roads line) train sound.limits fit train.rear fit.behind in
        let here = stands_between n train train.rear (omega arith) fit.behind in
        sound.agree.held s legal
        ∙ (alone mark n s line.trains (at_index number) no_train in_list here (sound.agree.one s legal)).1

    rear_fits : train.rear < train.front → Fits n (roads line) (rear_moved line train)
    rear_fits behind =
        elim (cases_Bool (eqb train.rear n)) [
          | inl e ↦
              let last : train.rear ≡ n = eqb-true _ _ e in
              let there : train.front ≡ n + 1 = omega (arith, fit.within) in
              rw e (record {
                axles = fit.axles;
                behind = omega arith;
                within = omega arith;
                rear_out = omega arith;
                road_low = fit.into_low there;
                road_high = fit.into_high;
                into_low = λ h. absurd (omega arith);
                into_high = omega arith;
              })
          | inr e ↦
              let more : train.rear ≡ n → ⊥ = eqb-false _ _ e in
              rw e (record {
                axles = fit.axles;
                behind = omega arith;
                within = fit.within;
                rear_out = omega (arith, fit.rear_out, more);
                road_low = fit.road_low;
                road_high = fit.road_high;
                into_low = fit.into_low;
                into_high = fit.into_high;
              })
        ]

    rear_away : Away line (rear_moved line train)
    rear_away =
        elim (cases_Bool (eqb train.rear n)) [
          | inl e ↦ rw e (λ h. absurd (omega arith))
          | inr e ↦ rw e away
        ]

    -- a rear that moves on
    pub followed_on : eqb train.rear train.front ≡ false
        → Told mark line (Leave (section_of n train train.rear) train.axles) (effect mark line (follow number))
    followed_on apart =
        let t = section_of n train train.rear in
        let differ : train.rear ≡ train.front → ⊥ = eqb-false train.rear train.front apart in
        let behind : train.rear < train.front = omega (arith, fit.behind, differ) in
        let times_is = λ (s : ℕ). rear_times line s train behind fit.within in
        let legal = sections_legal n (roads line) train sound.limits fit train.rear fit.behind in
        let then = rear_moved line train in
        let gone = left mark n line.trains (set line.trains (at_index number) then) line.closed
        line.cells t
        train.axles legal fit.axles sound.agree
        (λ s. total_less mark n line.trains (at_index number) in_list then s (one_if (eqb t s)) (times_is s))
        (λ s. load_less mark n line.trains (at_index number) in_list then s (one_if (eqb t s))
        (moved_axles line train) (times_is s))
        mark_there in
        record {
          taken = gone.0;
          sound = moved_on (set line.trains (at_index number) then) (Leave t train.axles)
              (All-set (Fits n (roads line)) line.trains (at_index number) then (rear_fits behind) sound.fits)
              (All-set (Away line) line.trains (at_index number) then rear_away sound.way)
              gone.1;
        }

    -- a train taken off its road
    pub withdrawn : wholly_in train ≡ true
        → Told mark line (Leave (section_of n train 0) train.axles) (effect mark line (withdraw number))
    withdrawn whole =
        let i = at_index number in
        let then = take i line.trains ++ drop (i + 1) line.trains in
        let front : train.front ≡ 0 = eqb-true _ 0 whole in
        let rear : train.rear ≡ 0 = omega (arith, fit.behind) in
        let t = section_of n train 0 in
        let legal = sections_legal n (roads line) train sound.limits fit 0 (omega arith) in
        let marked : (cell_of line.cells t).held ≡ mark train.axles = rw rear at mark_there in
        let once = λ (s : ℕ). stands_once n s train rear front in
        let gone = left mark n line.trains then line.closed line.cells t train.axles legal fit.axles
        sound.agree
        (λ s. omega (arith, removed (times n s) line.trains i no_train in_list, once s))
        (λ s. let heavy : weight mark n s train ≡ one_if (eqb t s) * mark train.axles = rw (once s) in
        omega (arith, removed (weight mark n s) line.trains i no_train in_list, heavy))
        marked in
        record {
          taken = gone.0;
          sound = moved_on then (Leave t train.axles)
              (All-append (Fits n (roads line)) (take i line.trains) (drop (i + 1) line.trains)
              (All-take (Fits n (roads line)) i line.trains sound.fits)
              (All-drop (Fits n (roads line)) (i + 1) line.trains sound.fits))
              (All-append (Away line) (take i line.trains) (drop (i + 1) line.trains)
              (All-take (Away line) i line.trains sound.way)
              (All-drop (Away line) (i + 1) line.trains sound.way))
              gone.1;
        }

    -- a front that passes a proceed signal
    abbrev on : Train
    on = front_moved line train

    short_of : ended line train ≡ false → train.front ≤ n
    short_of h = let not_there : train.front ≡ n + 1 → ⊥ = eqb-false _ _ h in omega (arith, fit.within, not_there)

    -- the section ahead: clear, legal, and its station sends
    record Ahead : Type 0 where
      is_clear : clear line (section_of n on (train.front + 1)) ≡ true
      is_legal : legal_section (section_of n on (train.front + 1)) ≡ true
      fits_on : Fits n (roads line) on

    fits_short : train.front < n → Fits n (roads line) on
    fits_short short =
        let other : eqb train.front n ≡ false = ne_eqb _ _ (λ e. omega arith) in
        rw other (record {
          axles = fit.axles;
          behind = omega (arith, fit.behind);
          within = omega arith;
          rear_out = fit.rear_out;
          road_low = fit.road_low;
          road_high = fit.road_high;
          into_low = λ h. absurd (omega arith);
          into_high = omega arith;
        })

    fits_last : train.front ≡ n → reversed (levers_at line (other_end train.from)).home ≡ true
        → Fits n (roads line) on
    fits_last last set =
        let here : eqb train.front n ≡ true = eq-eqb _ _ last in
        let home = (levers_at line (other_end train.from)).home in
        let not_0 : home ≡ 0 → ⊥ = eqb-false home 0 (not-true (eqb home 0) set) in
        rw here (record {
          axles = fit.axles;
          behind = omega (arith, fit.behind);
          within = omega arith;
          rear_out = fit.rear_out;
          road_low = fit.road_low;
          road_high = fit.road_high;
          into_low = λ h. omega (arith, not_0);
          into_high = (sound.levers (other_end train.from)).home_high;
        })

    ahead : eqb (count_at line train.from (train.front + 1)) 0 ≡ false → train.front ≤ n → Ahead
    ahead offered short =
        elim (cases_lt train.front n) [
          | inl more ↦
              let fits_on = fits_short more in
              let at = in_block n on (train.front + 1) (omega arith) (omega arith) in
              record {
                is_clear = rw at (block_offered line train.from (train.front + 1) (omega arith) offered);
                is_legal = sections_legal n (roads line) on sound.limits fits_on (train.front + 1) (omega arith);
                fits_on = fits_on;
              }
          | inr most ↦
              let last : train.front ≡ n = omega arith in
              let home = home_offered line train.from sound.limits.some (rw last at offered) in
              let fits_on = fits_last last home.1 in
              let at = in_far_road n on (train.front + 1) (omega arith) in
              record {
                is_clear = rw (at, eq-eqb train.front n last) home.0;
                is_legal = sections_legal n (roads line) on sound.limits fits_on (train.front + 1) (omega arith);
                fits_on = fits_on;
              }
        ]

    offered_ahead : at_stop shows line train ≡ false → eqb (count_at line train.from (train.front + 1)) 0 ≡ false
    offered_ahead proceed =
        let d = train.front + 1 in
        sym (lamps (count_at line train.from d) (metres_at line train.from d)) ∙ (or_parts _ _ proceed).0

    pub clear_ahead : ended line train ≡ false → at_stop shows line train ≡ false
        → clear line (section_of n on (train.front + 1)) ≡ true
    clear_ahead going proceed = (ahead (offered_ahead proceed) (short_of going)).is_clear

    pub advanced_on : ended line train ≡ false → at_stop shows line train ≡ false
        → Told mark line (Enter (section_of n on (train.front + 1)) train.axles)
        (effect mark line (advance number))
    advanced_on going proceed =
        let i = at_index number in
        let d = train.front + 1 in
        let short = short_of going in
        let offered = offered_ahead proceed in
        let way_on = ahead offered short in
        let t = section_of n on d in
        let parts = clear_parts mark lawful line sound t way_on.is_clear in
        let empty = clear_empty mark lawful line sound t way_on.is_legal way_on.is_clear in
        let into = cond (eqb train.front n) (levers_at line (other_end train.from)).home 0 in
        let times_is = λ (s : ℕ). front_on n s train into fit.behind short in
        let come = entered mark n line.trains (set line.trains i on) line.closed line.cells t
        train.axles
        way_on.is_legal fit.axles sound.agree
        (λ s. total_more mark n line.trains i in_list on s (one_if (eqb t s)) (times_is s))
        (λ s. load_more mark n line.trains i in_list on s (one_if (eqb t s)) refl (times_is s))
        parts.0 parts.1 empty in
        record {
          taken = come.0;
          sound = moved_on (set line.trains i on) (Enter t train.axles)
              (All-set (Fits n (roads line)) line.trains i on way_on.fits_on sound.fits)
              (All-set (Away line) line.trains i on (λ _. offers_sends line train.from d offered) sound.way)
              come.1;
        }

  -- a train put on in a clear road
  pub put_on_road : (number axles : ℕ) (station : Station) (road : ℕ) → 1 ≤ road → road ≤ roads line station
      → legal_axles axles ≡ true → clear line (road_section station road) ≡ true
      → Told mark line (Enter (road_section station road) axles)
      (moved mark line (line.trains ++ standing number axles station road
      ∷ []) (Enter (road_section station road) axles))
  put_on_road number axles station road low high good is_clear =
      let new = standing number axles station road in
      let t = road_section station road in
      let fits : Fits n (roads line) new = record {
        axles = good;
        behind = omega arith;
        within = omega arith;
        rear_out = omega arith;
        road_low = low;
        road_high = high;
        into_low = λ h. absurd (omega arith);
        into_high = omega arith;
      } in
      let legal = sections_legal n (roads line) new sound.limits fits 0 (omega arith) in
      let parts = clear_parts mark lawful line sound t is_clear in
      let empty = clear_empty mark lawful line sound t legal is_clear in
      let once = λ (s : ℕ). stands_once n s new refl refl in
      let come = entered mark n line.trains (line.trains ++ new ∷ []) line.closed line.cells t axles
      legal good sound.agree
      (λ s. omega (arith, sum_by_push (times n s) line.trains new, once s))
      (λ s. let heavy : weight mark n s new ≡ one_if (eqb t s) * mark axles = rw (once s) in
      omega (arith, sum_by_push (weight mark n s) line.trains new, heavy))
      parts.0 parts.1 empty in
      record {
        taken = come.0;
        sound = moved_on (line.trains ++ new ∷ []) (Enter t axles)
            (All-push (Fits n (roads line)) line.trains new sound.fits fits)
            (All-push (Away line) line.trains new sound.way (λ h. absurd (omega arith)))
            come.1;
      }
