-- The promises over every history, from what always holds.
use Rattle.std.proofs.Common.{◌≡◌, ℕ, zero, suc, ◌+◌, ◌-◌, ◌<◌, ◌≤◌, Bool, true, false, ◌||◌, eqb, ltb, leb, ◌++◌}
use Rattle.std.proofs.Common.{length, take, drop, Some, None, Option, sym, refl, ◌∙◌, inl, inr, arith}
use Rattle.std.proofs.ByRecursion.{All-get_or}
use Rattle.std.proofs.lemmas.List.{length-take-le, length-append, length-drop}
use Rattle.std.proofs.lemmas.List.Sums.{get_or-le-sum_by}
use Rattle.std.proofs.lemmas.Bool.{and_parts, or_cases, or_parts, cases_lt, both_ways, not-false, eqb-true, eqb-false}
use Rattle.std.proofs.lemmas.Bool.{leb-true, le-leb, ltb-false, and_from}
use Rattle.rules.specs.Calls.{Call, lay, direction, starter, home, put_on, withdraw, advance, follow, fail, mend}
use Rattle.rules.specs.Calls.{close, hand_in, ask_signal, ask_name, paint, rows, verdict}
use Rattle.rules.specs.Calls.{no_train, some_station, all_clear, alike}
use Rattle.rules.specs.Detection.{legal_section, legal_axles, track_verdict}
use Rattle.rules.specs.LineRuns.{after_all}
use Rattle.rules.specs.Lines.{Line, new_line, blocks, roads, sends, clear, section_of, holds, holds_from, in_use}
use Rattle.promises.specs.Promises.{LawfulLamps, DirectionLocked, TrainsApart, Apart, FrontsComeIntoClear}
use Rattle.promises.specs.Promises.{NoSurprise, front_comes_into, tells, train_at}
use Rattle.rules.specs.Signals.{Shows}
use Rattle.rules.specs.Stations.{other_end, road_section}
use Rattle.rules.specs.Table.{within}
use Rattle.rules.specs.TrackRuns.{Lawful}
use Rattle.rules.specs.declared.detection.TrackCall.{TrackCall}
use Rattle.rules.specs.declared.line.Station.{Station}
use Rattle.rules.specs.declared.line.Station.TheVariants.{EndA, EndB}
use Rattle.rules.specs.declared.line.Train.{Train}
use Rattle.promises.proofs.Always.{always}
use Rattle.promises.proofs.Bare.{only_laying}
use Rattle.promises.specs.Sound.{Away, Blank, Fits, Sound, times}
use Rattle.promises.proofs.Fits.{above_16, sections_legal}
use Rattle.promises.proofs.Fronts.{fronts_into_clear, later_one}
use Rattle.promises.proofs.LeverCalls.{none_away}
use Rattle.promises.proofs.Numbered.{distinct_always}
use Rattle.promises.proofs.Occupation.{stands}
use Rattle.rules.proofs.Rows.{none_hold, some_row}
use Rattle.promises.proofs.Totals.{removed}
use Rattle.promises.proofs.TrainCalls.{followed_on, withdrawn, advanced_on, put_on_road, clear_ahead}

-- where on its way a train holds a section
held_from : (n : ℕ) (train : Train) (s d more : ℕ) → holds_from n train s d more ≡ true
    → (e : ℕ) × (section_of n train e ≡ s) × (d ≤ e) × (e < d + more)
held_from n train s d zero h = absurd (both_ways false refl h)
held_from n train s d (suc more) h =
    elim (or_cases (eqb (section_of n train d) s) (holds_from n train s (d + 1) more) h) [
      | inl here ↦ (d, eqb-true _ s here, omega arith, omega arith)
      | inr later ↦
          let at = held_from n train s (d + 1) more later in
          (at.0, at.1, omega (arith, at.2), omega (arith, at.3))
    ]

held_at : (n : ℕ) (roads : Station → ℕ) (train : Train) (s : ℕ) → Fits n roads train → holds n train s ≡ true
    → (e : ℕ) × (section_of n train e ≡ s) × (train.rear ≤ e) × (e ≤ train.front)
held_at n roads train s fit h =
    let at = held_from n train s train.rear ((train.front + 1) - train.rear) h in
    (at.0, at.1, at.2, omega (arith, at.3, fit.behind))

module _ (mark : ℕ → ℕ) (line : Line) (sound : Sound mark line) where
  abbrev n : ℕ
  n = blocks line

  fit_at : (i : ℕ) → i < length line.trains → Fits n (roads line) (train_at line i)
  fit_at i in_list = All-get_or (Fits n (roads line)) line.trains i no_train in_list sound.fits

  held_legal : (i s : ℕ) → i < length line.trains → holds n (train_at line i) s ≡ true → legal_section s ≡ true
  held_legal i s in_list h =
      let at = held_at n (roads line) (train_at line i) s (fit_at i in_list) h in
      rw (sym at.1) (sections_legal n (roads line) (train_at line i) sound.limits (fit_at i in_list) at.0 at.3)

  apart_of : TrainsApart line
  apart_of = record {
    no_two = λ i j s before in_list first second.
        let trains = line.trains in
        let in_list_i : i < length trains = omega arith in
        let one = sound.agree.one s (held_legal i s in_list_i first) in
        let others = take i trains ++ drop (i + 1) trains in
        let long : j - 1 < length others =
        simp (length-append, length-drop) (omega (arith, length-take-le i trains (omega arith))) in
        let seen = get_or-le-sum_by (times n s) others (j - 1) no_train long in
        omega (
          arith,
          removed (times n s) trains i no_train in_list_i,
          stands n (train_at line i) s first,
          stands n (train_at line j) s second,
          rw (later_one trains i j before in_list) at seen,
        );
    none_closed = λ i s in_list h shut.
        let legal = held_legal i s in_list h in
        omega (
          arith,
          sound.agree.unshut s legal shut,
          stands n (train_at line i) s h,
          get_or-le-sum_by (times n s) line.trains i no_train in_list,
        );
  }

module _ (shows : Shows) (lamps : LawfulLamps shows) (mark : ℕ → ℕ) (lawful : Lawful mark) (line : Line)
    (sound : Sound mark line) where
  some_is : (a b : ℕ) → Some a ≡ Some b → a ≡ b
  some_is a b h = cc

  nothing_comes : (s : ℕ) → ◌≡◌ {A = Option ℕ} None (Some s) → ⊥
  nothing_comes s h = let z : ◌≡◌ {A = ℕ} 0 1 = cc in omega arith

  -- a front set or moved comes into a clear section
  front_clear : (c : Call) (s : ℕ) → verdict shows line c ≡ None → front_comes_into line c ≡ Some s
      → clear line s ≡ true
  front_clear (lay laying plan) s none h = absurd (nothing_comes s h)
  front_clear (direction m send) s none h = absurd (nothing_comes s h)
  front_clear (starter m road) s none h = absurd (nothing_comes s h)
  front_clear (home m road) s none h = absurd (nothing_comes s h)
  front_clear (put_on number axles m road) s none h =
      let passed = none_hold (rows shows line (put_on number axles m road)) none in
      rw (sym (some_is _ s h)) (not-false _ passed.1.1.1.1.1.0)
  front_clear (withdraw number) s none h = absurd (nothing_comes s h)
  front_clear (advance number) s none h =
      let passed = none_hold (rows shows line (advance number)) none in
      let going = passed.1.1.1.0 in
      rw (sym (some_is _ s h))
      (clear_ahead shows lamps mark lawful line sound number passed.1.0 going (rw going at passed.1.1.0))
  front_clear (follow number) s none h = absurd (nothing_comes s h)
  front_clear (fail t) s none h = absurd (nothing_comes s h)
  front_clear (mend t) s none h = absurd (nothing_comes s h)
  front_clear (close block) s none h = absurd (nothing_comes s h)
  front_clear (hand_in number block) s none h = absurd (nothing_comes s h)
  front_clear (ask_signal m place) s none h = absurd (nothing_comes s h)
  front_clear (ask_name name) s none h = absurd (nothing_comes s h)
  front_clear (paint bytes) s none h = absurd (nothing_comes s h)

  said : (a b : TrackCall) → Some a ≡ Some b → a ≡ b
  said a b h = cc

  nothing_said : (told : TrackCall) → ◌≡◌ {A = Option TrackCall} None (Some told) → ⊥
  nothing_said told h = let z : ◌≡◌ {A = ℕ} 0 1 = cc in omega arith

  -- a section in use is one of the track's
  used_legal : (s : ℕ) → in_use line s ≡ true → legal_section s ≡ true
  used_legal s h =
      elim (or_cases (within 1 (blocks line) s
      || within 17 (16 + roads line EndA) s) (within 21 (20 + roads line EndB) s) h) [
        | inl more ↦ elim (or_cases (within 1 (blocks line) s) (within 17 (16 + roads line EndA) s) more) [
          | inl block ↦ inside 1 (blocks line) s block (omega arith) (omega (arith, sound.limits.most))
          | inr road ↦ inside 17 (16 + roads line EndA) s road (omega arith) (omega (arith, sound.limits.few EndA))
        ]
        | inr road ↦ inside 21 (20 + roads line EndB) s road (omega arith) (omega (arith, sound.limits.few EndB))
      ] where
        inside : (low high t : ℕ) → within low high t ≡ true → 1 ≤ low → high ≤ 24 → legal_section t ≡ true
        inside low high t e l h =
            let both = and_parts (leb low t) (leb t high) e in
            let from = leb-true low t both.0 in
            let to = leb-true t high both.1 in
            and_from _ _ (le-leb 1 t (omega arith)) (le-leb t 24 (omega arith))

  -- the track takes what it is told
  pub taken : (c : Call) (told : TrackCall) → verdict shows line c ≡ None → tells line c ≡ Some told
      → track_verdict mark line.cells told ≡ None
  taken (lay laying plan) told none h = absurd (nothing_said told h)
  taken (direction m send) told none h = absurd (nothing_said told h)
  taken (starter m road) told none h = absurd (nothing_said told h)
  taken (home m road) told none h = absurd (nothing_said told h)
  taken (put_on number axles m road) told none h =
      let passed = none_hold (rows shows line (put_on number axles m road)) none in
      let road_in = or_parts (eqb road 0) (ltb (roads line (some_station m)) road) passed.1.1.0 in
      let not_0 : road ≡ 0 → ⊥ = eqb-false road 0 road_in.0 in
      let card = and_parts (within 1 9999 number) (legal_axles axles) (not-false _ passed.1.1.1.0) in
      rw (sym (said _ told h))
      (put_on_road shows lamps mark lawful line sound number axles (some_station m) road (omega (arith, not_0))
      (ltb-false _ _ road_in.1) card.1 (not-false _ passed.1.1.1.1.1.0)).taken
  taken (withdraw number) told none h =
      let passed = none_hold (rows shows line (withdraw number)) none in
      rw (sym (said _ told h))
      (withdrawn shows lamps mark lawful line sound number passed.1.0 (not-false _ passed.1.1.0)).taken
  taken (advance number) told none h =
      let passed = none_hold (rows shows line (advance number)) none in
      let going = passed.1.1.1.0 in
      rw (sym (said _ told h))
      (advanced_on shows lamps mark lawful line sound number passed.1.0 going
      (rw going at passed.1.1.0)).taken
  taken (follow number) told none h =
      let passed = none_hold (rows shows line (follow number)) none in
      rw (sym (said _ told h))
      (followed_on shows lamps mark lawful line sound number passed.1.0 passed.1.1.0).taken
  taken (fail s) told none h =
      let passed = none_hold (rows shows line (fail s)) none in
      rw (sym (said _ told h), used_legal s (not-false _ passed.1.0), passed.1.1.0)
  taken (mend s) told none h =
      let passed = none_hold (rows shows line (mend s)) none in
      rw (sym (said _ told h), used_legal s (not-false _ passed.1.0), passed.1.1.0)
  taken (close block) told none h = absurd (nothing_said told h)
  taken (hand_in number block) told none h = absurd (nothing_said told h)
  taken (ask_signal m place) told none h = absurd (nothing_said told h)
  taken (ask_name name) told none h = absurd (nothing_said told h)
  taken (paint bytes) told none h = absurd (nothing_said told h)

  -- a train that holds a block is away from the station it left
  pub holds_block_away : (i block : ℕ) → i < length line.trains → within 1 (blocks line) block ≡ true
      → holds (blocks line) (train_at line i) block ≡ true → 1 ≤ (train_at line i).front
  holds_block_away i block in_list in_line h =
      let train = train_at line i in
      let fit = fit_at mark line sound i in_list in
      let at = held_at (blocks line) (roads line) train block fit h in
      let high = leb-true block (blocks line) (and_parts (leb 1 block) (leb block (blocks line)) in_line).1 in
      elim (cases_lt train.front 1) [
        | inr out ↦ out
        | inl still ↦
            let zero_at : at.0 ≡ 0 = omega (arith, at.3) in
            let road : road_section train.from train.road ≡ block = rw zero_at at at.1 in
            absurd (omega (arith, above_16 train.from train.road fit.road_low, sound.limits.most))
      ]

  far_sends : (station from : Station) → sends line from ≡ true → sends line station ≡ false
      → sends line (other_end station) ≡ true
  far_sends EndA EndA h silent = absurd (both_ways _ silent h)
  far_sends EndA EndB h silent = h
  far_sends EndB EndA h silent = h
  far_sends EndB EndB h silent = absurd (both_ways _ silent h)

  locked : (i block : ℕ) → i < length line.trains → within 1 (blocks line) block ≡ true
      → holds (blocks line) (train_at line i) block ≡ true
      → (m : ℕ) (send : Bool) → verdict shows line (direction m send) ≡ None → ⊥
  locked i block in_list in_line h m true none =
      let passed = none_hold (rows shows line (direction m true)) none in
      let out = holds_block_away i block in_list in_line h in
      let away = All-get_or (Away line) line.trains i no_train in_list sound.way out in
      let silent : sends line (some_station m) ≡ false = not_there (sends line (some_station m)) passed.1.1.0 in
      both_ways _ passed.1.1.1.0
      (far_sends (some_station m) (train_at line i).from away silent) where
        not_there : (b : Bool) → alike b true ≡ false → b ≡ false
        not_there true e = e
        not_there false e = refl
  locked i block in_list in_line h m false none =
      let passed = none_hold (rows shows line (direction m false)) none in
      let out = holds_block_away i block in_list in_line h in
      none_away mark lawful line sound
      (not-false (all_clear line (blocks line)) passed.1.1.1.1.1.0) i in_list out

-- a bare line has no train, and tells its track nothing
bare_apart : (line : Line) → Blank line → TrainsApart line
bare_apart line blank = record {
  no_two = λ i j s before in_list first second. absurd (omega (arith, rw blank.no_trains at in_list));
  none_closed = λ i s in_list h shut. absurd (omega (arith, rw blank.no_trains at in_list));
}

pub bare_tells_nothing : (shows : Shows) (line : Line) → Blank line → (c : Call) → verdict shows line c ≡ None
    → tells line c ≡ None
bare_tells_nothing shows line blank =
    only_laying shows line blank (λ c. tells line c ≡ None) (λ laying plan none. refl)

-- nor does a front move there
bare_moves_no_front : (shows : Shows) (line : Line) → Blank line → (c : Call) → verdict shows line c ≡ None
    → front_comes_into line c ≡ None
bare_moves_no_front shows line blank =
    only_laying shows line blank (λ c. front_comes_into line c ≡ None) (λ laying plan none. refl)

pub apart : Apart
apart shows lamps mark lawful cells sized calls =
    let line = after_all shows mark (new_line cells) calls in
    elim (always shows lamps mark lawful cells sized calls) [
      | inl blank ↦ (
        bare_apart line blank,
        λ c s none h.
            let z : ◌≡◌ {A = Option ℕ} None (Some s) = sym (bare_moves_no_front shows line blank c none) ∙ h in
            let clash : ◌≡◌ {A = ℕ} 0 1 = cc in
            absurd (omega arith),
      )
      | inr sound ↦ (apart_of mark line sound, front_clear shows lamps mark lawful line sound)
    ]

pub fronts_come_into_clear : FrontsComeIntoClear
fronts_come_into_clear shows lamps mark lawful cells sized calls =
    fronts_into_clear shows lamps mark lawful (after_all shows mark (new_line cells) calls)
    (always shows lamps mark lawful cells sized calls) (distinct_always shows mark (new_line cells) calls tt)

pub no_surprise : NoSurprise
no_surprise shows lamps mark lawful cells sized calls c told none h =
    let line = after_all shows mark (new_line cells) calls in
    elim (always shows lamps mark lawful cells sized calls) [
      | inl blank ↦
          let z : ◌≡◌ {A =
          Option TrackCall} None (Some told) = sym (bare_tells_nothing shows line blank c none) ∙ h in
          let clash : ◌≡◌ {A = ℕ} 0 1 = cc in
          absurd (omega arith)
      | inr sound ↦ taken shows lamps mark lawful line sound c told none h
    ]

pub direction_locked : DirectionLocked
direction_locked shows lamps mark lawful cells sized calls i block in_list in_line h m send =
    let line = after_all shows mark (new_line cells) calls in
    elim (always shows lamps mark lawful cells sized calls) [
      | inl blank ↦ absurd (omega (arith, rw blank.no_trains at in_list))
      | inr sound ↦
          some_row (verdict shows line (direction m send))
          (locked shows lamps mark lawful line sound i block in_list in_line h m send)
    ]
