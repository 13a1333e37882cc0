-- The foremost train on its way in: what each advance and follow needs, and what comes of a list of them.
use Rattle.std.proofs.Common.{◌≡◌, ℕ, zero, suc, ◌+◌, ◌-◌, ◌<◌, ◌≤◌, true, false, cond, eqb, List, [], ◌∷◌, length}
use Rattle.std.proofs.Common.{get_or, set, is_some, Some, None, unwrap_or, sym, refl, ap, ◌∙◌, inl, inr, arith}
use Rattle.std.proofs.ByRecursion.{All-get_or}
use Rattle.std.proofs.lemmas.List.{length-set, get_or-set_same, get_or-set_other}
use Rattle.std.proofs.lemmas.Bool.{and_from, and_left, cases_eq, eqb-false, eq-eqb, ne_eqb, le-leb, lt-leb, not-true}
use Rattle.std.proofs.lemmas.Bool.{not_from_false, or_from, or_left, or_right}
use Rattle.rules.specs.Aspects.{aspect_number}
use Rattle.rules.specs.Calls.{Call, advance, follow, verdict, effect, line_after, train_index, train_of}
use Rattle.rules.specs.Calls.{no_train, front_moved, rear_moved, standing, ended, at_stop, reversed}
use Rattle.rules.specs.Detection.{cell_of}
use Rattle.rules.specs.Lines.{Line, blocks, roads, levers_at, clear, closed_at, state_at}
use Rattle.rules.specs.Lines.{section_of, wholly_in, in_use}
use Rattle.rules.specs.Signals.{Shows, count_at, metres_at, aspect_at, home_section, clear_run}
use Rattle.rules.specs.Stations.{road_section, other_end}
use Rattle.rules.specs.Table.{after}
use Rattle.rules.specs.TrackRuns.{Lawful}
use Rattle.rules.specs.declared.line.Station.{Station}
use Rattle.rules.specs.declared.line.Station.TheVariants.{EndA, EndB}
use Rattle.rules.specs.declared.line.Train.{Train}
use Rattle.promises.specs.Promises.{LawfulLamps, train_at, LineInOrder, is_move, BroughtIn}
use Rattle.promises.proofs.Always.{from_laid}
use Rattle.promises.specs.Sound.{Away, Fits, Sound, one_if, total}
use Rattle.promises.proofs.Fits.{road_bounds, block_bounds, in_block, is_legal}
use Rattle.promises.proofs.Moves.{with_rear, front_on}
use Rattle.promises.proofs.TrainCalls.{total_more}
use Rattle.promises.proofs.Foremost.{clear_before}
use Rattle.promises.proofs.Numbered.{distinct_after}
use Rattle.promises.proofs.Numbers.{Distinct, found_there}
use Rattle.promises.proofs.SameLamps.{enter_order, leave_order}
use Rattle.promises.proofs.Totals.{none_weighs_none}

-- a road of a station is in use
road_in_use : (line : Line) (station : Station) (road : ℕ) → 1 ≤ road → road ≤ roads line station
    → in_use line (road_section station road) ≡ true
road_in_use line EndA road low high =
    or_left _ _
    (or_right _ _
    (and_from _ _ (le-leb 17 (16 + road) (omega arith))
    (le-leb (16 + road) (16 + roads line EndA) (omega arith))))
road_in_use line EndB road low high =
    or_right _ _
    (and_from _ _ (le-leb 21 (20 + road) (omega arith)) (le-leb (20 + road) (20 + roads line EndB) (omega arith)))

-- one call more at the head of a list that brings the train in
pub one_call_more : (shows : Shows) (mark : ℕ → ℕ) (line : Line) (number : ℕ) (station : Station) (most : ℕ) (c : Call)
    → is_move c ≡ true → verdict shows line c ≡ None
    → BroughtIn shows mark (line_after shows mark line c) number station most
    → BroughtIn shows mark line number station (suc most)
one_call_more shows mark line number station most c move none later = record {
  calls = c ∷ later.calls;
  few = omega (arith, later.few);
  carried_out = and_from _ _ (and_from _ _ move (rw none)) later.carried_out;
  still_known = later.still_known;
  there = later.there;
  wholly = later.wholly;
}

-- what is brought in by so many calls is brought in by more
pub within_more : {shows : Shows} {mark : ℕ → ℕ} (line : Line) (number : ℕ) (station : Station) (a b : ℕ) → a ≤ b
    → BroughtIn shows mark line number station a → BroughtIn shows mark line number station b
within_more line number station a b more in_a = record {
  calls = in_a.calls;
  few = omega (arith, in_a.few);
  carried_out = in_a.carried_out;
  still_known = in_a.still_known;
  there = in_a.there;
  wholly = in_a.wholly;
}

-- the foremost train on its way in
pub record Coming (mark : ℕ → ℕ) (line : Line) (f : ℕ) : Type 0 where
  pub sound : Sound mark line
  pub distinct : Distinct line.trains
  pub on_line : f < length line.trains
  pub out : 1 ≤ (train_at line f).front
  pub furthest : (j : ℕ) → j < length line.trains → (train_at line j).front ≤ (train_at line f).front
  pub order : LineInOrder line

-- it is found by its number
by_number : (mark : ℕ → ℕ) (line : Line) (f : ℕ) → Coming mark line f
    → (is_some (train_index line (train_at line f).number) ≡ true)
    × (unwrap_or (train_index line (train_at line f).number) 0 ≡ f)
by_number mark line f coming =
    let found = found_there line f coming.on_line coming.distinct in
    (rw found, rw found)

pub done_then : (shows : Shows) (mark : ℕ → ℕ) (line : Line) (c : Call) → verdict shows line c ≡ None
    → line_after shows mark line c ≡ effect mark line c
done_then shows mark line c none = ap (λ v. after v line (effect mark line c)) none

-- the fronts after one train was changed
fronts_then : (trains : List Train) (f : ℕ) (new : Train) → f < length trains
    → ((j : ℕ) → j < length trains → (get_or trains j no_train).front ≤ (get_or trains f no_train).front)
    → (get_or trains f no_train).front ≤ new.front
    → (j : ℕ) → j < length (set trains f new)
    → (get_or (set trains f new) j no_train).front ≤ (get_or (set trains f new) f no_train).front
fronts_then trains f new in_list before grows j l =
    let there = get_or-set_same trains f new no_train in_list in
    let long : j < length trains = omega (arith, length-set trains f new) in
    elim (cases_eq j f) [
      | inl e ↦ rw e (omega arith)
      | inr other ↦
          rw (get_or-set_other trains f j new no_train other, there) (omega (arith, before j long))
    ]

module _ (shows : Shows) (lamps : LawfulLamps shows) (mark : ℕ → ℕ) (lawful : Lawful mark) where
  -- what a follow of the foremost train needs, and leaves
  module _ (line : Line) (f : ℕ) (coming : Coming mark line f) where
    abbrev n : ℕ
    n = blocks line

    abbrev train : Train
    train = train_at line f

    abbrev number : ℕ
    number = train.number

    pub fit : Fits n (roads line) train
    fit = All-get_or (Fits n (roads line)) line.trains f no_train coming.on_line coming.sound.fits

    known : is_some (train_index line number) ≡ true
    known = (by_number mark line f coming).0

    at_f : unwrap_or (train_index line number) 0 ≡ f
    at_f = (by_number mark line f coming).1

    same_train : train_of line number ≡ train
    same_train = ap (λ i. get_or line.trains i no_train) at_f

    follow_none : train.rear < train.front → verdict shows line (follow number) ≡ None
    follow_none behind =
        rw (coming.sound.laid, known, same_train, ne_eqb train.rear train.front (λ e. omega arith))

    -- the line after it, in its parts
    follow_trains : (effect mark line (follow number)).trains ≡ set line.trains f (rear_moved line train)
    follow_trains = rw at_f

    -- found again by its number, changed
    found_again : (then : Line) (new : Train) → then.trains ≡ set line.trains f new → new.number ≡ number
        → Distinct then.trains
        → (is_some (train_index then number) ≡ true) × (train_of then number ≡ new)
    found_again then new is same distinct =
        let there : get_or then.trains f no_train ≡ new =
        rw is (get_or-set_same line.trains f new no_train coming.on_line) in
        let in_list : f < length then.trains =
        rw is (omega (arith, length-set line.trains f new, coming.on_line)) in
        let found : train_index then number ≡ Some f =
        rw (sym (ap (λ t. t.number) there ∙ same)) (found_there then f in_list distinct) in
        (rw found, rw found there)

    -- the parts of a line in order that no move touches
    order_kept : (then : Line) → blocks then ≡ n → ((s : ℕ) → in_use then s ≡ in_use line s)
        → ((s : ℕ) → (cell_of then.cells s).failed ≡ (cell_of line.cells s).failed)
        → then.closed ≡ line.closed → LineInOrder then
    order_kept then long used failed shut = record {
      in_order = λ s h. failed s ∙ coming.order.in_order s (sym (used s) ∙ h);
      none_closed = λ block h. rw shut (coming.order.none_closed block (rw long at h));
    }

    -- after a follow that does not yet bring it in, it comes on
    follow_on : train.rear < n → train.rear < train.front → Coming mark (effect mark line (follow number)) f
    follow_on short behind =
        let then = effect mark line (follow number) in
        let new = rear_moved line train in
        let not_last : eqb train.rear n ≡ false = ne_eqb _ _ (λ e. omega arith) in
        let front_same : new.front ≡ train.front = rw not_last in
        let none = follow_none behind in
        let is = follow_trains in
        record {
          sound = from_laid shows lamps mark lawful line coming.sound (follow number) none;
          distinct =
              rw (done_then shows mark line (follow number) none) at
              (distinct_after shows mark line (follow number) coming.distinct);
          on_line = rw is (omega (arith, length-set line.trains f new, coming.on_line));
          out =
              rw is (rw (get_or-set_same line.trains f new no_train coming.on_line)
              (omega (arith, front_same, coming.out)));
          furthest =
              rw is (fronts_then line.trains f new coming.on_line coming.furthest
              (omega (arith, front_same)));
          order = order_kept then refl (λ s. refl) (λ s.
              leave_order mark line.cells (section_of n (train_of line number) (train_of line number).rear)
              (train_of line number).axles s) refl;
        }

    -- after the last follow, it stands in its road there
    follow_in : train.rear ≡ n → train.front ≡ n + 1
        → BroughtIn shows mark line number (other_end train.from) 1
    follow_in last there =
        let none = follow_none (omega arith) in
        let then = line_after shows mark line (follow number) in
        let new = standing number train.axles (other_end train.from) train.into in
        let is : then.trains ≡ set line.trains f new =
        ap (λ l. l.trains) (done_then shows mark line (follow number) none)
        ∙ follow_trains ∙ ap (set line.trains f) (rw (eq-eqb train.rear n last)) in
        let again = found_again then new is refl (distinct_after shows mark line (follow number) coming.distinct) in
        one_call_more shows mark line number (other_end train.from) 0 (follow number) refl none (record {
          calls = [];
          few = omega arith;
          carried_out = refl;
          still_known = again.0;
          there = ap (λ t. t.from) again.1;
          wholly = ap wholly_in again.1;
        })

    -- an advance past a signal with something to offer
    advance_none : train.front ≤ n → eqb (count_at line train.from (train.front + 1)) 0 ≡ false
        → verdict shows line (advance number) ≡ None
    advance_none short offered =
        let d = train.front + 1 in
        let going : ended line train ≡ false = ne_eqb _ _ (λ e. omega arith) in
        let shown : eqb (aspect_number (aspect_at shows line train.from d)) 0 ≡ false =
        lamps (count_at line train.from d) (metres_at line train.from d) ∙ offered in
        let proceed : at_stop shows line train ≡ false =
        or_from _ _ shown (and_left _ _ (ne_eqb train.front 0 (λ e. omega (arith, coming.out)))) in
        rw (coming.sound.laid, known, same_train, going, proceed)

    -- the block ahead offers itself
    block_ahead : train.front < n → eqb (count_at line train.from (train.front + 1)) 0 ≡ false
    block_ahead short =
        let d = train.front + 1 in
        let fuel : (n + 1) - d ≡ suc ((n + 1) - (d + 1)) = omega arith in
        let is_clear = clear_before mark line coming.sound f coming.on_line coming.out coming.furthest
        coming.order d (omega arith) (omega arith) in
        let sender =
        All-get_or (Away line) line.trains f no_train coming.on_line coming.sound.way coming.out in
        rw (ne_eqb d 1 (λ e. omega (arith, coming.out)), le-leb d n (omega arith), sender, fuel, is_clear)
        (ne_eqb (1 + clear_run line train.from (d + 1) ((n + 1) - (d + 1))) 0 (λ e. omega arith))

    -- the home of the far station set for a road where none stands
    pub record HomeReady : Type 0 where
      pub set_for_road : reversed (levers_at line (other_end train.from)).home ≡ true
      pub empty : total n (home_section line train.from) line.trains ≡ 0
      pub unclosed : closed_at line (home_section line train.from) ≡ false

    advance_trains : (effect mark line (advance number)).trains ≡ set line.trains f (front_moved line train)
    advance_trains = rw at_f

    advance_on : train.front ≤ n → verdict shows line (advance number) ≡ None
        → Coming mark (effect mark line (advance number)) f
    advance_on short none =
        let then = effect mark line (advance number) in
        let new = front_moved line train in
        let is = advance_trains in
        record {
          sound = from_laid shows lamps mark lawful line coming.sound (advance number) none;
          distinct =
              rw (done_then shows mark line (advance number) none) at
              (distinct_after shows mark line (advance number) coming.distinct);
          on_line = rw is (omega (arith, length-set line.trains f new, coming.on_line));
          out = rw is (rw (get_or-set_same line.trains f new no_train coming.on_line) (omega arith));
          furthest = rw is (fronts_then line.trains f new coming.on_line coming.furthest (omega arith));
          order = order_kept then refl (λ s. refl) (λ s.
              enter_order mark line.cells
              (section_of n (front_moved line (train_of line number)) ((train_of line number).front + 1))
              (train_of line number).axles s) refl;
        }

    -- a road set for offers itself
    home_ahead : HomeReady → train.front ≡ n → eqb (count_at line train.from (train.front + 1)) 0 ≡ false
    home_ahead ready last =
        let d = train.front + 1 in
        let s = home_section line train.from in
        let road = (levers_at line (other_end train.from)).home in
        let not_0 : road ≡ 0 → ⊥ = eqb-false road 0 (not-true (eqb road 0) ready.set_for_road) in
        let high = (coming.sound.levers (other_end train.from)).home_high in
        let few = coming.sound.limits.few (other_end train.from) in
        let bounds = road_bounds (other_end train.from) road (omega (arith, not_0)) (omega arith) in
        let legal = is_legal s (omega (arith, bounds.0)) bounds.1 in
        let used = road_in_use line (other_end train.from) road (omega (arith, not_0)) high in
        let held : (cell_of line.cells s).held ≡ 0 =
        coming.sound.agree.held s legal ∙ none_weighs_none mark n s line.trains ready.empty in
        let vacant : state_at line s ≡ 0 = rw (coming.order.in_order s used, held) in
        let is_clear : clear line s ≡ true = and_from _ _ (eq-eqb _ 0 vacant) (not_from_false _ ready.unclosed) in
        let sender =
        All-get_or (Away line) line.trains f no_train coming.on_line coming.sound.way coming.out in
        rw (
          ne_eqb d 1 (λ e. omega (arith, coming.out)),
          lt-leb d n
              (omega arith),
          sender,
          ready.set_for_road,
          is_clear,
        )

    -- the road stays free while the front comes into blocks
    still_empty : HomeReady → train.front < n
        → total n (home_section line train.from) (set line.trains f (front_moved line train)) ≡ 0
    still_empty ready short =
        let new = front_moved line train in
        let d = train.front + 1 in
        let s = home_section line train.from in
        let t = section_of n new d in
        let road = (levers_at line (other_end train.from)).home in
        let not_0 : road ≡ 0 → ⊥ = eqb-false road 0 (not-true (eqb road 0) ready.set_for_road) in
        let into = cond (eqb train.front n) road 0 in
        let high = (coming.sound.levers (other_end train.from)).home_high in
        let few = coming.sound.limits.few (other_end train.from) in
        let far = road_bounds (other_end train.from) road (omega (arith, not_0)) (omega arith) in
        let near = block_bounds n d train.from (omega arith) (omega arith) in
        let at = in_block n new d (omega arith) (omega arith) in
        let apart : eqb t s ≡ false =
        rw at (ne_eqb _ s (λ e. omega (arith, far.0, near.1, coming.sound.limits.most))) in
        let times_is = front_on n s train into fit.behind (omega arith) in
        total_more mark n line.trains f coming.on_line new s (one_if (eqb t s)) times_is
        ∙ rw apart (omega (arith, ready.empty))

  -- from the far station on, follows bring it in
  pub finish : (k : ℕ) (line : Line) (f : ℕ) → Coming mark line f → (train_at line f).front ≡ blocks line + 1
      → (blocks line + 1) - (train_at line f).rear ≡ k
      → BroughtIn shows mark line (train_at line f).number (other_end (train_at line f).from) k
  finish zero line f coming there left = absurd (omega (arith, (fit line f coming).rear_out))
  finish (suc k) line f coming there left =
      let train = train_at line f in
      let n = blocks line in
      let number = train.number in
      let out = (fit line f coming).rear_out in
      elim (cases_eq train.rear n) [
        | inl last ↦
            let one : k ≡ 0 = omega arith in
            rw one (follow_in line f coming last there)
        | inr more ↦
            let behind : train.rear < train.front = omega arith in
            let none = follow_none line f coming behind in
            let then = effect mark line (follow number) in
            let on = follow_on line f coming (omega (arith, more)) behind in
            let not_last : eqb train.rear n ≡ false = ne_eqb _ _ more in
            let new : train_at then f ≡ with_rear train (train.rear + 1) =
            ap (λ ts. get_or ts f no_train) (follow_trains line f coming)
            ∙ get_or-set_same line.trains f (rear_moved line train) no_train coming.on_line ∙ rw not_last in
            let later = finish k then f on (ap (λ t. t.front) new ∙ there)
            (ap (λ t. (n + 1) - t.rear) new ∙ omega arith) in
            one_call_more shows mark line number (other_end train.from) k (follow number) refl none
            (rw (done_then shows mark line (follow number) none) (rw new at later))
      ]

  -- one advance more, and then as the line goes on
  advance_first : (line : Line) (f : ℕ) (coming : Coming mark line f) (station : Station) (most : ℕ) (then : Line)
      → verdict shows line (advance (train_at line f).number) ≡ None
      → effect mark line (advance (train_at line f).number) ≡ then
      → BroughtIn shows mark then (train_at line f).number station most
      → BroughtIn shows mark line (train_at line f).number station (suc most)
  advance_first line f coming station most then none is later =
      let number = (train_at line f).number in
      one_call_more shows mark line number station most (advance number) refl none
      (rw (done_then shows mark line (advance number) none ∙ is) later)

  -- the train after it
  advanced_train : (line : Line) (f : ℕ) (coming : Coming mark line f) (then : Line)
      → effect mark line (advance (train_at line f).number) ≡ then
      → train_at then f ≡ front_moved line (train_at line f)
  advanced_train line f coming then is =
      ap (λ l. get_or l.trains f no_train) (sym is)
      ∙ ap (λ ts. get_or ts f no_train) (advance_trains line f coming)
      ∙ get_or-set_same line.trains f (front_moved line (train_at line f)) no_train coming.on_line

  -- the last advance, into the road
  enter_road : (line : Line) (f : ℕ) (coming : Coming mark line f) → HomeReady line f coming
      → (train_at line f).front ≡ blocks line → (then : Line)
      → effect mark line (advance (train_at line f).number) ≡ then
      → blocks then ≡ blocks line → Coming mark then f
      → BroughtIn shows mark line (train_at line f).number (other_end (train_at line f).from)
      (suc ((blocks line + 1) - (train_at line f).rear))
  enter_road line f coming ready last then is long on =
      let train = train_at line f in
      let none = advance_none line f coming (omega arith) (home_ahead line f coming ready last) in
      let new = advanced_train line f coming then is in
      let later = finish ((blocks then + 1) - (train_at then f).rear) then f on
      (ap (λ t. t.front) new ∙ omega arith) refl in
      advance_first line f coming (other_end train.from) ((blocks line + 1) - train.rear) then none is
      (rw (sym (ap (λ t. t.number) new), sym (ap (λ t. t.from) new), sym (ap (λ t. t.rear) new), sym long) later)

  -- an advance into a block leaves the road free
  ready_on : (line : Line) (f : ℕ) (coming : Coming mark line f) → HomeReady line f coming
      → (train_at line f).front < blocks line
      → (then : Line) → effect mark line (advance (train_at line f).number) ≡ then → (on : Coming mark then f)
      → HomeReady then f on
  ready_on line f coming ready more then is on =
      let train = train_at line f in
      let far = other_end train.from in
      let from_same : (train_at then f).from ≡ train.from = ap (λ t. t.from) (advanced_train line f coming then is) in
      record {
        set_for_road = rw from_same
            (ap (λ l. reversed (levers_at l far).home) (sym is) ∙ ready.set_for_road);
        empty = rw from_same
            (ap (λ l. total (blocks l) (home_section l train.from) l.trains) (sym is)
            ∙ ap (total (blocks line) (home_section line train.from)) (advance_trains line f coming)
            ∙ still_empty line f coming ready more);
        unclosed = rw from_same (ap (λ l. closed_at l (home_section l train.from)) (sym is) ∙ ready.unclosed);
      }

  -- what is brought in from there is brought in from here, with one advance more
  go_block : (line : Line) (f : ℕ) (coming : Coming mark line f) → (train_at line f).front < blocks line
      → (k : ℕ) (then : Line)
      → effect mark line (advance (train_at line f).number) ≡ then → blocks then ≡ blocks line
      → BroughtIn shows mark then (train_at then f).number (other_end (train_at then f).from)
      (k + ((blocks then + 1) - (train_at then f).rear))
      → BroughtIn shows mark line (train_at line f).number (other_end (train_at line f).from)
      (suc (k + ((blocks line + 1) - (train_at line f).rear)))
  go_block line f coming more k then is long later =
      let train = train_at line f in
      let none = advance_none line f coming (omega arith) (block_ahead line f coming more) in
      let new = advanced_train line f coming then is in
      advance_first line f coming (other_end train.from) (k + ((blocks line + 1) - train.rear)) then none is
      (rw (sym (ap (λ t. t.number) new), sym (ap (λ t. t.from) new), sym (ap (λ t. t.rear) new), sym long) later)

  -- with the home set, advances bring its front in, and then the follows
  pub go : (k : ℕ) (line : Line) (f : ℕ) (coming : Coming mark line f) → HomeReady line f coming
      → (train_at line f).front + suc k ≡ blocks line + 1
      → BroughtIn shows mark line (train_at line f).number (other_end (train_at line f).from)
      (suc (k + ((blocks line + 1) - (train_at line f).rear)))
  go zero line f coming ready left =
      let last : (train_at line f).front ≡ blocks line = omega arith in
      let none = advance_none line f coming (omega arith) (home_ahead line f coming ready last) in
      let none_more : 0 + ((blocks line + 1) - (train_at line f).rear) ≡ (blocks line + 1) - (train_at line f).rear =
      omega arith in
      rw none_more
      (enter_road line f coming ready last (effect mark line (advance (train_at line f).number)) refl refl
      (advance_on line f coming (omega arith) none))
  go (suc k) line f coming ready left =
      let more : (train_at line f).front < blocks line = omega arith in
      let none = advance_none line f coming (omega arith) (block_ahead line f coming more) in
      let then = effect mark line (advance (train_at line f).number) in
      let on = advance_on line f coming (omega arith) none in
      let new = advanced_train line f coming then refl in
      go_block line f coming more (suc k) then refl refl
      (within_more then (train_at then f).number (other_end (train_at then f).from) _ _ (omega arith)
      (go k then f on (ready_on line f coming ready more then refl on) (ap (λ t. t.front + suc k) new
      ∙ omega arith)))
