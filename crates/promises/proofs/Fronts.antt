-- A front that a call sets or moves comes into a section that was clear.
use Rattle.std.proofs.Common.{◌≡◌, ℕ, ◌+◌, ◌-◌, ◌<◌, ◌≤◌, true, false, eqb, List, [], ◌∷◌, ◌++◌, length, get_or, take}
use Rattle.std.proofs.Common.{drop, set, is_some, Some, None, Option, unwrap_or, sym, refl, ap, ◌∙◌, inl, inr, arith}
use Rattle.std.proofs.ByRecursion.{All-get_or}
use Rattle.std.proofs.lemmas.List.{get_or_append_left, get_or-append_right, get_or-drop, get_or-set_other}
use Rattle.std.proofs.lemmas.List.{get_or-set_same, get_or-take, length-append, length-drop, length-set}
use Rattle.std.proofs.lemmas.List.{length-take-le}
use Rattle.std.proofs.lemmas.Bool.{both_ways, cases_Bool, cases_eq, cases_lt, eqb-false, eqb-true, not-false}
use Rattle.rules.specs.Calls.{Call, lay, direction, starter, home, put_on, withdraw, advance, follow, fail, mend}
use Rattle.rules.specs.Calls.{close, hand_in, ask_signal, ask_name, paint, rows, verdict, effect}
use Rattle.rules.specs.Calls.{no_train, some_station, standing, train_index, train_of, front_moved, rear_moved}
use Rattle.rules.specs.Calls.{with_levers}
use Rattle.rules.specs.Lines.{Line, blocks, roads, section_of}
use Rattle.rules.specs.Signals.{Shows}
use Rattle.rules.specs.Table.{after}
use Rattle.rules.specs.TrackRuns.{Lawful}
use Rattle.rules.specs.declared.line.Levers.{Levers}
use Rattle.rules.specs.declared.line.Station.{Station}
use Rattle.rules.specs.declared.line.Train.{Train}
use Rattle.rules.specs.declared.refusal.Refusal.{Refusal}
use Rattle.rules.proofs.Rows.{none_hold}
use Rattle.promises.specs.Promises.{LawfulLamps, FrontIntoClear, FrontsIntoClear, front_section, train_at}
use Rattle.promises.proofs.Bare.{only_laying}
use Rattle.promises.specs.Sound.{Blank, Fits, Kept, Sound}
use Rattle.promises.proofs.Fits.{in_far_road}
use Rattle.promises.proofs.Found.{found_within}
use Rattle.promises.proofs.Numbered.{same_number}
use Rattle.promises.proofs.Numbers.{Distinct, found_there}
use Rattle.promises.proofs.TrainCalls.{clear_ahead}
use Rattle.promises.proofs.Untouched.{trains_kept, blocks_kept}

-- the trains without one of them
pub later_one : (trains : List Train) (i j : ℕ) → i < j → j < length trains
    → get_or (take i trains ++ drop (i + 1) trains) (j - 1) no_train ≡ get_or trains j no_train
later_one trains i j before in_list =
    let front : length (take i trains) ≡ i = length-take-le i trains (omega arith) in
    let rest : (i + 1) + ((j - 1) - i) ≡ j = omega arith in
    get_or-append_right (take i trains) (drop (i + 1) trains) i (j - 1) no_train front (omega arith)
    ∙ get_or-drop (i + 1) trains ((j - 1) - i) no_train ∙ ap (λ k. get_or trains k no_train) rest

sooner_one : (trains : List Train) (i j : ℕ) → j < i → i ≤ length trains
    → get_or (take i trains ++ drop (i + 1) trains) j no_train ≡ get_or trains j no_train
sooner_one trains i j before in_list =
    let front : length (take i trains) ≡ i = length-take-le i trains in_list in
    get_or_append_left (take i trains) (drop (i + 1) trains) no_train j (omega arith)
    ∙ get_or-take i trains j no_train before

module _ (line : Line) (distinct : Distinct line.trains) where
  -- a train that was on the line, with its front in the same section
  as_it_was : (then : Line) (train : Train) (i : ℕ) → i < length line.trains
      → train.number ≡ (train_at line i).number → front_section then train ≡ front_section line (train_at line i)
      → FrontIntoClear line then train
  as_it_was then train i in_list number front =
      let found : train_index line train.number ≡ Some i =
      ap (train_index line) number ∙ found_there line i in_list distinct in
      inl (rw found, rw found (sym front))

  -- the very same train
  the_same : (then : Line) (train : Train) (i : ℕ) → i < length line.trains → train ≡ train_at line i
      → blocks then ≡ blocks line → FrontIntoClear line then train
  the_same then train i in_list same long =
      as_it_was then train i in_list (ap (λ t. t.number) same)
      (ap (λ t. front_section then t) same ∙ ap (λ b. section_of b (train_at line i) (train_at line i).front) long)

  -- no train touched
  none_moved : (then : Line) (j : ℕ) → then.trains ≡ line.trains → blocks then ≡ blocks line
      → j < length then.trains → FrontIntoClear line then (train_at then j)
  none_moved then j is long in_list =
      the_same then (train_at then j) j (rw is at in_list) (ap (λ trains. get_or trains j no_train) is) long

module _ (shows : Shows) (lamps : LawfulLamps shows) (mark : ℕ → ℕ) (lawful : Lawful mark) (line : Line)
    (sound : Sound mark line) (distinct : Distinct line.trains) where
  abbrev n : ℕ
  n = blocks line

  lever_moved : (station : Station) (levers : Levers) (j : ℕ)
      → j < length (with_levers line station levers).trains
      → FrontIntoClear line (with_levers line station levers) (train_at (with_levers line station levers) j)
  lever_moved station levers j =
      none_moved line distinct (with_levers line station levers) j (trains_kept line station levers)
      (blocks_kept line station levers)

  -- one train changed, the others as they were
  one_moved : (then : Line) (i : ℕ) (new : Train) → then.trains ≡ set line.trains i new → i < length line.trains
      → blocks then ≡ n → FrontIntoClear line then new
      → (j : ℕ) → j < length then.trains → FrontIntoClear line then (train_at then j)
  one_moved then i new is in_list long moved j low =
      elim (cases_eq j i) [
        | inl e ↦
            rw (ap (λ trains. get_or trains j no_train) is
            ∙ ap (λ k. get_or (set line.trains i new) k no_train) e
            ∙ get_or-set_same line.trains i new no_train in_list) moved
        | inr other ↦
            the_same line distinct then (train_at then j) j
            (omega (arith, ap length is, length-set line.trains i new))
            (ap (λ trains. get_or trains j no_train) is ∙ get_or-set_other line.trains i j new no_train other) long
      ]

  -- a rear that moves on leaves the front where it is
  same_front : (train : Train) → Fits n (roads line) train → eqb train.rear train.front ≡ false
      → section_of n (rear_moved line train) (rear_moved line train).front ≡ section_of n train train.front
  same_front train fit apart =
      let differ : train.rear ≡ train.front → ⊥ = eqb-false _ _ apart in
      elim (cases_Bool (eqb train.rear n)) [
        | inl e ↦
            let last : train.rear ≡ n = eqb-true _ _ e in
            rw e (sym (in_far_road n train train.front (omega (arith, fit.behind, differ))))
        | inr e ↦ rw e
      ]

  module _ (number : ℕ) (found : is_some (train_index line number) ≡ true) where
    abbrev i : ℕ
    i = unwrap_or (train_index line number) 0

    in_list : i < length line.trains
    in_list = found_within (λ t. t.number) number line.trains found

    fit : Fits n (roads line) (train_of line number)
    fit = All-get_or (Fits n (roads line)) line.trains i no_train in_list sound.fits

    withdrawn_from : (j : ℕ) → j < length (effect mark line (withdraw number)).trains
        → FrontIntoClear line (effect mark line (withdraw number)) (train_at (effect mark line (withdraw number)) j)
    withdrawn_from j low =
        let then = effect mark line (withdraw number) in
        let left : length then.trains + 1 ≡ length line.trains =
        simp (length-append, length-drop)
        (omega (arith, length-take-le i line.trains (omega (arith, in_list)), in_list)) in
        elim (cases_lt j i) [
          | inl before ↦
              the_same line distinct then (train_at then j) j (omega (arith, in_list))
              (sooner_one line.trains i j before (omega (arith, in_list))) refl
          | inr behind ↦
              let back : (j + 1) - 1 ≡ j = omega arith in
              the_same line distinct then (train_at then j) (j + 1) (omega (arith, left))
              (rw back at (later_one line.trains i (j + 1) (omega arith) (omega (arith, left)))) refl
        ]

  pub front_came : (c : Call) → verdict shows line c ≡ None → (j : ℕ) → j < length (effect mark line c).trains
      → FrontIntoClear line (effect mark line c) (train_at (effect mark line c) j)
  front_came (lay laying plan) none j low =
      absurd (both_ways _ (none_hold (rows shows line (lay laying plan)) none).0 (rw sound.laid))
  front_came (direction m send) none j low = lever_moved (some_station m) _ j low
  front_came (starter m road) none j low = lever_moved (some_station m) _ j low
  front_came (home m road) none j low = lever_moved (some_station m) _ j low
  front_came (put_on number axles m road) none j low =
      let passed = none_hold (rows shows line (put_on number axles m road)) none in
      let then = effect mark line (put_on number axles m road) in
      let new = standing number axles (some_station m) road in
      elim (cases_lt j (length line.trains)) [
        | inl before ↦
            the_same line distinct then (train_at then j) j before
            (get_or_append_left line.trains (new ∷ []) no_train j before) refl
        | inr behind ↦
            let last : j - length line.trains ≡ 0 =
            omega (arith, rw (length-append line.trains (new ∷ [])) at low) in
            let is : train_at then j ≡ new =
            get_or-append_right line.trains (new ∷ []) (length line.trains) j no_train refl behind
            ∙ ap (λ k. get_or (new ∷ []) k no_train) last in
            inr (rw is (not-false _ passed.1.1.1.1.1.0))
      ]
  front_came (withdraw number) none j low =
      let passed = none_hold (rows shows line (withdraw number)) none in
      withdrawn_from number (not-false _ passed.1.0) j low
  front_came (advance number) none j low =
      let passed = none_hold (rows shows line (advance number)) none in
      let going = passed.1.1.1.0 in
      let found = not-false _ passed.1.0 in
      let then = effect mark line (advance number) in
      one_moved then (i number found) (front_moved line (train_of line number)) refl (in_list number found) refl
      (inr (clear_ahead shows lamps mark lawful line sound number passed.1.0 going
      (rw going at passed.1.1.0))) j low
  front_came (follow number) none j low =
      let passed = none_hold (rows shows line (follow number)) none in
      let found = not-false _ passed.1.0 in
      let train = train_of line number in
      let then = effect mark line (follow number) in
      one_moved then (i number found) (rear_moved line train) refl (in_list number found) refl
      (as_it_was line distinct then (rear_moved line train) (i number found) (in_list number found)
      (same_number line train) (same_front train (fit number found) passed.1.1.0)) j low
  front_came (fail s) none j low = none_moved line distinct (effect mark line (fail s)) j refl refl low
  front_came (mend s) none j low = none_moved line distinct (effect mark line (mend s)) j refl refl low
  front_came (close block) none j low = none_moved line distinct (effect mark line (close block)) j refl refl low
  front_came (hand_in number block) none j low =
      none_moved line distinct (effect mark line (hand_in number block)) j refl refl low
  front_came (ask_signal m place) none j low = none_moved line distinct line j refl refl low
  front_came (ask_name name) none j low = none_moved line distinct line j refl refl low
  front_came (paint bytes) none j low = none_moved line distinct line j refl refl low

-- a bare line has no train, and gets none by one call
none_yet : (shows : Shows) (mark : ℕ → ℕ) (line : Line) → Blank line → (c : Call) → verdict shows line c ≡ None
    → length (effect mark line c).trains ≡ 0
none_yet shows mark line blank =
    only_laying shows line blank (λ c. length (effect mark line c).trains ≡ 0)
    (λ laying plan none. rw blank.no_trains)

pub fronts_into_clear : (shows : Shows) → LawfulLamps shows → (mark : ℕ → ℕ) → Lawful mark → (line : Line)
    → Kept mark line → Distinct line.trains → FrontsIntoClear shows mark line
fronts_into_clear shows lamps mark lawful line kept distinct c j = by_verdict (verdict shows line c) refl where
  by_verdict : (met : Option Refusal) → verdict shows line c ≡ met
      → let then = after met line (effect mark line c) in
      j < length then.trains → FrontIntoClear line then (train_at then j)
  by_verdict (Some refusal) e low = none_moved line distinct line j refl refl low
  by_verdict None e low =
      elim kept [
        | inl blank ↦ absurd (omega (arith, none_yet shows mark line blank c e))
        | inr sound ↦ front_came shows lamps mark lawful line sound distinct c e j low
      ]
