-- A train that can come in is brought in: the home set for a clear road, then as the train comes.
use Rattle.std.proofs.Common.{◌≡◌, ℕ, suc, ◌+◌, ◌-◌, ◌*◌, ◌<◌, ◌≤◌, true, false, ◌&&◌, eqb, List, [], ◌∷◌, length}
use Rattle.std.proofs.Common.{get_or, is_some, None, sym, refl, ap, ◌∙◌, inl, inr, arith}
use Rattle.std.proofs.ByRecursion.{All-get_or}
use Rattle.std.proofs.lemmas.Bool.{and_from, and_left, and_right, cases_Bool, cases_lt, cases_eq, both_ways, ne_eqb}
use Rattle.std.proofs.lemmas.Bool.{le-leb, not_from_false, or_from, le-ltb}
use Rattle.rules.specs.Calls.{home, verdict, line_after}
use Rattle.rules.specs.Calls.{with_levers, home_put, home_held, there_already}
use Rattle.rules.specs.Calls.{no_train, reversed}
use Rattle.rules.specs.Detection.{legal_section}
use Rattle.rules.specs.LineRuns.{after_all}
use Rattle.rules.specs.Lines.{Line, new_line, blocks, roads, levers_at, sends, clear, closed_at}
use Rattle.rules.specs.Signals.{Shows, home_section}
use Rattle.rules.specs.Stations.{road_section, other_end, station_number, station_of}
use Rattle.rules.specs.TrackRuns.{Lawful}
use Rattle.rules.specs.declared.line.Levers.{Levers}
use Rattle.rules.specs.declared.line.Station.{Station}
use Rattle.rules.specs.declared.line.Station.TheVariants.{EndA, EndB}
use Rattle.rules.specs.declared.line.Train.{Train}
use Rattle.promises.specs.Promises.{LawfulLamps, train_at, LineInOrder, BroughtIn}
use Rattle.promises.specs.Promises.{WayIn}
use Rattle.promises.specs.Promises.{Foremost, GetsIn, holds_a_block}
use Rattle.promises.proofs.Always.{always}
use Rattle.promises.specs.Sound.{Away, Fits, Sound, total}
use Rattle.promises.proofs.Fits.{road_bounds, is_legal}
use Rattle.promises.proofs.LeverCalls.{home_changed}
use Rattle.promises.proofs.Foremost.{furthest_front, away_holds, some_held}
use Rattle.promises.proofs.Numbered.{distinct_always}
use Rattle.promises.proofs.Numbers.{Distinct}
use Rattle.promises.proofs.Promised.{holds_block_away}
use Rattle.promises.proofs.Sound.{clear_parts, clear_empty}
use Rattle.promises.proofs.Frame.{known_station}
use Rattle.promises.proofs.Untouched.{trains_kept, closed_kept, blocks_kept, clear_kept, roads_kept, home_is_set}
use Rattle.promises.proofs.Coming.{Coming, HomeReady, one_call_more, within_more, done_then, fit, finish, go}

module _ (shows : Shows) (lamps : LawfulLamps shows) (mark : ℕ → ℕ) (lawful : Lawful mark) where
  -- a lever moved leaves the train on its way
  lever_on : (line : Line) (f : ℕ) → Coming mark line f → (station : Station) (levers : Levers)
      → Sound mark (with_levers line station levers) → Coming mark (with_levers line station levers) f
  lever_on line f coming EndA levers sound = record {
    sound = sound;
    distinct = coming.distinct;
    on_line = coming.on_line;
    out = coming.out;
    furthest = coming.furthest;
    order = record { in_order = coming.order.in_order; none_closed = coming.order.none_closed };
  }
  lever_on line f coming EndB levers sound = record {
    sound = sound;
    distinct = coming.distinct;
    on_line = coming.on_line;
    out = coming.out;
    furthest = coming.furthest;
    order = record { in_order = coming.order.in_order; none_closed = coming.order.none_closed };
  }

  -- the home of a station put to a road or to normal
  abbrev home_set : Line → Station → ℕ → Line
  home_set line station road = with_levers line station (home_put (levers_at line station) road)

  home_none : (line : Line) (station : Station) (road : ℕ) → Sound mark line → road ≤ roads line station
      → there_already (levers_at line station).home road ≡ false → (reversed road && sends line station) ≡ false
      → (eqb road 0 && home_held line station) ≡ false → verdict shows line (home (station_number station) road) ≡ None
  home_none line station road sound high moves way free =
      rw (
        sound.laid,
        is_station station,
        known_station station,
        le-ltb
            (roads line station) road high,
        moves,
        way,
        free,
      ) where
        is_station : (end : Station) → is_some (station_of (station_number end)) ≡ true
        is_station EndA = refl
        is_station EndB = refl

  home_first : (line : Line) (station : Station) (road number : ℕ) (far : Station) (most : ℕ)
      → verdict shows line (home (station_number station) road) ≡ None
      → BroughtIn shows mark (home_set line station road) number far most
      → BroughtIn shows mark line number far (suc most)
  home_first line station road number far most none later =
      let c = home (station_number station) road in
      let is : line_after shows mark line c ≡ home_set line station road =
      done_then shows mark line c none
      ∙ ap (λ st. with_levers line st (home_put (levers_at line st) road)) (known_station station) in
      one_call_more shows mark line number far most c refl none (rw is later)

  -- set for a clear road, it is ready
  ready_set : (line : Line) (f : ℕ) (coming : Coming mark line f) (road : ℕ) → 1 ≤ road
      → clear line (road_section (other_end (train_at line f).from) road) ≡ true
      → legal_section (road_section (other_end (train_at line f).from) road) ≡ true
      → (on : Coming mark (home_set line (other_end (train_at line f).from) road) f)
      → HomeReady shows lamps mark lawful (home_set line (other_end (train_at line f).from) road) f on
  ready_set line f coming road low is_clear legal on =
      let train = train_at line f in
      let far = other_end train.from in
      let then = home_set line far road in
      let s = road_section far road in
      let levers = home_put (levers_at line far) road in
      let same : train_at then f ≡ train = ap (λ ts. get_or ts f no_train) (trains_kept line far levers) in
      let own : (levers_at then far).home ≡ road = home_is_set line far road in
      let at : home_section then (train_at then f).from ≡ s =
      ap (λ t. home_section then t.from) same ∙ ap (road_section far) own in
      let parts = clear_parts mark lawful line coming.sound s is_clear in
      record {
        set_for_road = ap (λ t. reversed (levers_at then (other_end t.from)).home) same ∙ ap reversed own
            ∙ not_from_false _ (ne_eqb road 0 (λ e. omega arith));
        empty = ap (λ x. total (blocks then) x then.trains) at
            ∙ ap (λ ts. total (blocks then) s ts) (trains_kept line far levers)
            ∙ ap (λ m. total m s line.trains) (blocks_kept line far levers)
            ∙ clear_empty mark lawful line coming.sound s legal is_clear;
        unclosed = ap (closed_at then) at ∙ ap (λ cs. get_or cs (s - 1) false) (closed_kept line far levers) ∙ parts.1;
      }

  -- the far station does not send
  far_silent : (line : Line) (from : Station) → (sends line EndA && sends line EndB) ≡ false → sends line from ≡ true
      → sends line (other_end from) ≡ false
  far_silent line EndA one_way own =
      elim (cases_Bool (sends line EndB)) [
        | inl both ↦ absurd (both_ways _ one_way (and_from _ _ own both))
        | inr silent ↦ silent
      ]
  far_silent line EndB one_way own =
      elim (cases_Bool (sends line EndA)) [
        | inl both ↦ absurd (both_ways _ one_way (and_from _ _ both own))
        | inr silent ↦ silent
      ]

  -- the line with other trains
  abbrev with_trains : Line → List Train → Line
  with_trains line trains = record {
    laying = line.laying;
    plan = line.plan;
    trains = trains;
    cells = line.cells;
    closed = line.closed;
    at_a = line.at_a;
    at_b = line.at_b;
  }

  -- no train's front in a station: its home is not held
  home_free : (line : Line) (station : Station) (trains : List Train)
      → ((j : ℕ) → j < length trains → (get_or trains j no_train).front ≤ blocks line)
      → home_held (with_trains line trains) station ≡ false
  home_free line station [] none = refl
  home_free line station (train ∷ trains) none =
      or_from _ _ (and_right _ _ (ne_eqb train.front (blocks line + 1) (λ e. omega (arith, none 0 (omega arith)))))
      (home_free line station trains (λ j l. none (suc j) (omega arith)))

  -- the same train by another line's record of it
  known_as : (then : Line) (t u : Train) (m l : ℕ) (most : ℕ → ℕ) → t ≡ u → m ≡ l
      → BroughtIn shows mark then t.number (other_end t.from) (most ((m + 1) - t.rear))
      → BroughtIn shows mark then u.number (other_end u.from) (most ((l + 1) - u.rear))
  known_as then t u m l most same long later = rw (sym same, sym long) later

  -- from a home at normal: set for a clear road, then as above
  set_and_go : (line : Line) (f : ℕ) (coming : Coming mark line f) (road : ℕ) → 1 ≤ road
      → road ≤ roads line (other_end (train_at line f).from)
      → clear line (road_section (other_end (train_at line f).from) road) ≡ true
      → (levers_at line (other_end (train_at line f).from)).home ≡ 0
      → (k : ℕ) → (train_at line f).front + suc k ≡ blocks line + 1
      → BroughtIn shows mark line (train_at line f).number (other_end (train_at line f).from)
      (suc (suc (k + ((blocks line + 1) - (train_at line f).rear))))
  set_and_go line f coming road low high is_clear normal k left =
      let train = train_at line f in
      let far = other_end train.from in
      let levers = home_put (levers_at line far) road in
      let then = home_set line far road in
      let not_0 : eqb road 0 ≡ false = ne_eqb road 0 (λ e. omega arith) in
      let sender =
      All-get_or (Away line) line.trains f no_train coming.on_line coming.sound.way coming.out in
      let way : (reversed road && sends line far) ≡ false =
      and_right _ _ (far_silent line train.from coming.sound.one_way sender) in
      let none = home_none line far road coming.sound high (rw (normal, not_0)) way (and_left _ _ not_0) in
      let on = lever_on line f coming far levers (home_changed mark lawful line coming.sound far road high way) in
      let bounds = road_bounds far road low (omega (arith, coming.sound.limits.few far)) in
      let legal = is_legal (road_section far road) (omega (arith, bounds.0)) bounds.1 in
      let same : train_at then f ≡ train = ap (λ ts. get_or ts f no_train) (trains_kept line far levers) in
      let long = blocks_kept line far levers in
      home_first line far road train.number far (suc (k + ((blocks line + 1) - train.rear))) none
      (known_as then (train_at then f) train (blocks then) (blocks line) (λ rest. suc (k + rest)) same long
      (go shows lamps mark lawful k then f on (ready_set line f coming road low is_clear legal on)
      (ap (λ t. t.front + suc k) same ∙ left ∙ ap (λ m. m + 1) (sym long))))

  -- from a home set for some other road: first to normal
  normal_and_go : (line : Line) (f : ℕ) (coming : Coming mark line f) (road : ℕ) → 1 ≤ road
      → road ≤ roads line (other_end (train_at line f).from)
      → clear line (road_section (other_end (train_at line f).from) road) ≡ true
      → eqb (levers_at line (other_end (train_at line f).from)).home 0 ≡ false
      → (k : ℕ) → (train_at line f).front + suc k ≡ blocks line + 1
      → BroughtIn shows mark line (train_at line f).number (other_end (train_at line f).from)
      (suc (suc (suc (k + ((blocks line + 1) - (train_at line f).rear)))))
  normal_and_go line f coming road low high is_clear off k left =
      let train = train_at line f in
      let far = other_end train.from in
      let levers = home_put (levers_at line far) 0 in
      let then = home_set line far 0 in
      let free = home_free line far line.trains (λ j l. omega (arith, coming.furthest j l)) in
      let none = home_none line far 0 coming.sound (omega arith) (rw off) refl free in
      let on =
      lever_on line f coming far levers (home_changed mark lawful line coming.sound far 0 (omega arith) refl) in
      let same : train_at then f ≡ train = ap (λ ts. get_or ts f no_train) (trains_kept line far levers) in
      let long = blocks_kept line far levers in
      let far_same : other_end (train_at then f).from ≡ far = ap (λ t. other_end t.from) same in
      home_first line far 0 train.number far (suc (suc (k + ((blocks line + 1) - train.rear)))) none
      (known_as then (train_at then f) train (blocks then) (blocks line) (λ rest. suc (suc (k + rest))) same long
      (set_and_go then f on road low
      (rw far_same (rw (roads_kept line far far levers) high))
      (ap (λ end. clear then (road_section end road)) far_same ∙ clear_kept line far levers _ ∙ is_clear)
      (ap (λ end. (levers_at then end).home) far_same ∙ home_is_set line far 0)
      k (ap (λ t. t.front + suc k) same ∙ left ∙ ap (λ m. m + 1) (sym long))))

  -- with a way in, it is brought in
  bring : (line : Line) (f : ℕ) (coming : Coming mark line f) → WayIn line (train_at line f)
      → BroughtIn shows mark line (train_at line f).number (other_end (train_at line f).from) (2 * blocks line + 3)
  bring line f coming (inr there) =
      within_more line (train_at line f).number (other_end (train_at line f).from) _ _ (omega arith)
      (finish shows lamps mark lawful ((blocks line + 1) - (train_at line f).rear) line f coming there refl)
  bring line f coming (inl (road, low, high, is_clear)) =
      let train = train_at line f in
      let number = train.number in
      let far = other_end train.from in
      let k = blocks line - train.front in
      elim (cases_lt train.front (blocks line + 1)) [
        | inr past ↦
            let there : train.front ≡ blocks line + 1 =
            omega (arith, (fit shows lamps mark lawful line f coming).within) in
            within_more line number far _ _ (omega arith)
            (finish shows lamps mark lawful ((blocks line + 1) - train.rear) line f coming there refl)
        | inl short ↦
            let left : train.front + suc k ≡ blocks line + 1 = omega arith in
            elim (cases_eq (levers_at line far).home 0) [
              | inl normal ↦
                  within_more line number far (suc (suc (k + ((blocks line + 1) - train.rear)))) (2 * blocks line + 3)
                  (omega (arith, coming.out)) (set_and_go line f coming road low high is_clear normal k left)
              | inr off ↦
                  within_more line number far (suc (suc (suc (k + ((blocks line + 1) - train.rear)))))
                  (2 * blocks line + 3)
                  (omega (arith, coming.out))
                  (normal_and_go line f coming road low high is_clear (ne_eqb _ 0 off) k left)
            ]
      ]

  -- a train that holds a block is away from its station
  held_away : (line : Line) → Sound mark line → (j : ℕ) → j < length line.trains
      → holds_a_block line (train_at line j) ≡ true → 1 ≤ (train_at line j).front
  held_away line sound j in_list h =
      let at = some_held (blocks line) (train_at line j) (blocks line) h in
      holds_block_away shows lamps mark lawful line sound j at.0 in_list
      (and_from _ _ (le-leb 1 at.0 at.1) (le-leb at.0 (blocks line) at.2)) at.3

  -- a line with a train in a block has a foremost one
  some_foremost : (line : Line) → Sound mark line → (i : ℕ) → i < length line.trains
      → holds_a_block line (train_at line i) ≡ true → (f : ℕ) × Foremost line f
  some_foremost line sound i in_list h =
      let best = furthest_front line.trains (omega arith) in
      let f = best.0 in
      let out : 1 ≤ (train_at line f).front = omega (arith, held_away line sound i in_list h, best.2 i in_list) in
      let fits = All-get_or (Fits (blocks line) (roads line)) line.trains f no_train best.1 sound.fits in (
        f,
        record {
          on_line = best.1;
          holds_one = away_holds (blocks line) (roads line) (train_at line f) sound.limits.some fits out;
          furthest = λ j l held. best.2 j l;
        },
      )

  -- no front is further on than that of a foremost train, in a block or not
  foremost_of_all : (line : Line) → Sound mark line → (f : ℕ) → Foremost line f → (j : ℕ) → j < length line.trains
      → (train_at line j).front ≤ (train_at line f).front
  foremost_of_all line sound f foremost j in_list =
      let fits = All-get_or (Fits (blocks line) (roads line)) line.trains j no_train in_list sound.fits in
      elim (cases_lt (train_at line j).front 1) [
        | inl still ↦ omega arith
        | inr out ↦
            foremost.furthest j in_list
            (away_holds (blocks line) (roads line) (train_at line j) sound.limits.some fits out)
      ]

  foremost_comes : (line : Line) → Sound mark line → Distinct line.trains → (f : ℕ) → Foremost line f
      → LineInOrder line → Coming mark line f
  foremost_comes line sound distinct f foremost order = record {
    sound = sound;
    distinct = distinct;
    on_line = foremost.on_line;
    out = held_away line sound f foremost.on_line foremost.holds_one;
    furthest = foremost_of_all line sound f foremost;
    order = order;
  }

-- a train that can come in is brought in
pub gets_in : GetsIn
gets_in shows lamps mark lawful cells sized calls =
    let line = after_all shows mark (new_line cells) calls in
    elim (always shows lamps mark lawful cells sized calls) [
      | inl blank ↦
          let none : length line.trains ≡ 0 = ap length blank.no_trains in
          (λ i in_list h. absurd (omega arith), λ f foremost order way. absurd (omega (arith, foremost.on_line)))
      | inr sound ↦
          let distinct = distinct_always shows mark (new_line cells) calls tt in (
            some_foremost shows lamps mark lawful line sound,
            λ f foremost order way. bring shows lamps mark lawful line f
                (foremost_comes shows lamps mark lawful line sound distinct f foremost order) way,
          )
    ]
