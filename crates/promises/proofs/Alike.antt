-- Two lines that differ in their cells alone, where each section reads the same: every answer is the same.
use Rattle.std.proofs.Common.{◌≡◌, ℕ, zero, suc, ◌+◌, ◌-◌, not, List, [], ◌∷◌, map, refl, ap, ◌∙◌}
use Rattle.std.specs.List.{range_with_len}
use Rattle.rules.specs.Calls.{Call, lay, direction, starter, home, put_on, withdraw, advance, follow, fail, mend}
use Rattle.rules.specs.Calls.{close, hand_in, ask_signal, ask_name, paint, rows, verdict, all_clear, all_vacant}
use Rattle.rules.specs.Calls.{some_station, train_of, with_levers, effect}
use Rattle.rules.specs.Detection.{cell_of, state_of}
use Rattle.rules.specs.LineRuns.{result, answer_to, unless, signal, painted}
use Rattle.rules.specs.Lines.{Line, blocks, clear, state_at, sends}
use Rattle.rules.specs.Panels.{panel, panel_byte, section_byte, signal_byte, lock_lamp}
use Rattle.rules.specs.Signals.{Shows, clear_run, count_at, metres_at, aspect_at, home_count}
use Rattle.rules.specs.Signals.{home_section, metres_from}
use Rattle.rules.specs.Signals.{distance_to}
use Rattle.rules.specs.Stations.{place_from, road_section, station_number}
use Rattle.rules.specs.Table.{topmost}
use Rattle.rules.specs.declared.detection.Cell.{Cell}
use Rattle.rules.specs.declared.line.Levers.{Levers}
use Rattle.rules.specs.declared.line.Station.{Station}
use Rattle.rules.specs.declared.line.Station.TheVariants.{EndA, EndB}
use Rattle.rules.specs.Calls.{cells_told}
use Rattle.promises.specs.Promises.{tells}

-- the line over other cells
abbrev pub over : Line → List Cell → Line
over line cells = record {
  laying = line.laying;
  plan = line.plan;
  trains = line.trains;
  at_a = line.at_a;
  at_b = line.at_b;
  closed = line.closed;
  cells = cells;
}

-- each section reads the same
pub record ReadsAlike (one two : List Cell) : Type 0 where
  pub states : (s : ℕ) → state_of (cell_of one s) ≡ state_of (cell_of two s)
  pub order : (s : ℕ) → (cell_of one s).failed ≡ (cell_of two s).failed

module _ (line : Line) (one two : List Cell) (alike : ReadsAlike one two) where
  abbrev first : Line
  first = over line one

  abbrev second : Line
  second = over line two

  same_state : (s : ℕ) → state_at first s ≡ state_at second s
  same_state s = rw (alike.states s)

  same_clear : (s : ℕ) → clear first s ≡ clear second s
  same_clear s = rw (alike.states s)

  same_all_clear : (n : ℕ) → all_clear first n ≡ all_clear second n
  same_all_clear zero = refl
  same_all_clear (suc n) = rw (same_clear (suc n), same_all_clear n)

  same_all_vacant : (n : ℕ) → all_vacant first n ≡ all_vacant second n
  same_all_vacant zero = refl
  same_all_vacant (suc n) = rw (same_state (suc n), same_all_vacant n)

  same_run : (station : Station) (d fuel : ℕ) → clear_run first station d fuel ≡ clear_run second station d fuel
  same_run station d zero = refl
  same_run station d (suc fuel) =
      rw (same_clear (place_from (blocks line) station d), same_run station (d + 1) fuel)

  same_count : (station : Station) (d : ℕ) → count_at first station d ≡ count_at second station d
  same_count station d =
      rw (
        same_run station 1 ((blocks line + 1) - 1),
        same_run station d ((blocks line + 1) - d),
        same_clear (home_section line station),
      )

  same_home : (station : Station) → home_count first station ≡ home_count second station
  same_home station = rw (same_clear (home_section line station))

  same_metres_from : (station : Station) (d n : ℕ) → metres_from first station d n ≡ metres_from second station d n
  same_metres_from station d zero = refl
  same_metres_from station d (suc n) = rw (same_metres_from station (d + 1) n)

  same_metres : (station : Station) (d : ℕ) → metres_at first station d ≡ metres_at second station d
  same_metres station d =
      rw (same_count station d, same_home station, same_metres_from station d (count_at second station d))

  same_aspect : (shows : Shows) (station : Station) (d : ℕ)
      → aspect_at shows first station d ≡ aspect_at shows second station d
  same_aspect shows station d =
      ap (λ r. shows r (metres_at first station d)) (same_count station d)
      ∙ ap (shows (count_at second station d)) (same_metres station d)

  pub same_rows : (shows : Shows) (c : Call) → rows shows first c ≡ rows shows second c
  same_rows shows (lay laying plan) = rw (same_all_vacant 24)
  same_rows shows (direction n send) = rw (same_all_clear (blocks line))
  same_rows shows (starter n road) = refl
  same_rows shows (home n road) = refl
  same_rows shows (put_on number axles n road) = rw (same_clear (road_section (some_station n) road))
  same_rows shows (withdraw number) = refl
  same_rows shows (advance number) =
      rw (same_aspect shows (train_of line number).from ((train_of line number).front + 1))
  same_rows shows (follow number) = refl
  same_rows shows (fail s) = rw (alike.order s)
  same_rows shows (mend s) = rw (alike.order s)
  same_rows shows (close block) = rw (same_clear block)
  same_rows shows (hand_in number block) = refl
  same_rows shows (ask_signal n place) = refl
  same_rows shows (ask_name name) = refl
  same_rows shows (paint bytes) = refl

  pub same_verdict : (shows : Shows) (c : Call) → verdict shows first c ≡ verdict shows second c
  same_verdict shows c = ap topmost (same_rows shows c)

  -- what the panel shows
  same_lock : (shows : Shows) (station : Station) → lock_lamp shows first station ≡ lock_lamp shows second station
  same_lock shows station =
      rw (same_verdict shows (direction (station_number station) (not (sends line station))))

  same_section_byte : (s : ℕ) → section_byte first s ≡ section_byte second s
  same_section_byte s = rw (same_state s)

  same_signal_byte : (shows : Shows) (station : Station) (place : ℕ)
      → signal_byte shows first station place ≡ signal_byte shows second station place
  same_signal_byte shows EndA place = rw (same_aspect shows EndA place)
  same_signal_byte shows EndB place = rw (same_aspect shows EndB ((blocks line + 1) - place))

  same_byte : (shows : Shows) (k : ℕ) → panel_byte shows first k ≡ panel_byte shows second k
  same_byte shows k =
      rw (
        same_section_byte (k + 1),
        same_signal_byte shows EndA (k - 23),
        same_signal_byte shows EndB (k - 41),
        same_lock shows EndA,
        same_lock shows EndB,
      )

  map_same : (f g : ℕ → ℕ) → ((k : ℕ) → f k ≡ g k) → (ks : List ℕ) → map f ks ≡ map g ks
  map_same f g same [] = refl
  map_same f g same (k ∷ ks) = rw (same k, map_same f g same ks)

  pub same_panel : (shows : Shows) → panel shows first ≡ panel shows second
  unfolding panel
  same_panel shows = map_same (panel_byte shows first) (panel_byte shows second) (same_byte shows) (range_with_len 0 66)

  same_result : (shows : Shows) (c : Call) → result shows first c ≡ result shows second c
  same_result shows (lay laying plan) = refl
  same_result shows (direction n send) = refl
  same_result shows (starter n road) = refl
  same_result shows (home n road) = refl
  same_result shows (put_on number axles n road) = refl
  same_result shows (withdraw number) = refl
  same_result shows (advance number) = refl
  same_result shows (follow number) = refl
  same_result shows (fail s) = refl
  same_result shows (mend s) = refl
  same_result shows (close block) = refl
  same_result shows (hand_in number block) = refl
  same_result shows (ask_signal n place) =
      let d = distance_to first (some_station n) place in
      ap (λ a. signal a (count_at first (some_station n) d)) (same_aspect shows (some_station n) d)
      ∙ ap (signal (aspect_at shows second (some_station n) d)) (same_count (some_station n) d)
      ∙ ap (λ e. signal (aspect_at shows second (some_station n) e) (count_at second (some_station n) e))
      (near (some_station n)) where
        near : (station : Station) → distance_to first station place ≡ distance_to second station place
        near EndA = refl
        near EndB = refl
  same_result shows (ask_name name) = refl
  same_result shows (paint bytes) = ap painted (same_panel shows)

  pub same_answer : (shows : Shows) (c : Call) → answer_to shows first c ≡ answer_to shows second c
  same_answer shows c =
      ap (λ v. unless v (result shows first c)) (same_verdict shows c)
      ∙ ap (unless (verdict shows second c)) (same_result shows c)

levers_over : (line : Line) (cells : List Cell) (station : Station) (levers : Levers)
    → with_levers (over line cells) station levers ≡ over (with_levers line station levers) cells
levers_over line cells EndA levers = refl
levers_over line cells EndB levers = refl

-- the mark makes a difference in the cells alone
pub effect_over : (mark : ℕ → ℕ) (line : Line) (cells : List Cell) (c : Call)
    → effect mark (over line cells) c ≡ over (effect (λ n. n) line c) (cells_told mark cells (tells line c))
effect_over mark line cells (lay laying plan) = refl
effect_over mark line cells (direction n send) = levers_over line cells (some_station n) _
effect_over mark line cells (starter n road) = levers_over line cells (some_station n) _
effect_over mark line cells (home n road) = levers_over line cells (some_station n) _
effect_over mark line cells (put_on number axles n road) = refl
effect_over mark line cells (withdraw number) = refl
effect_over mark line cells (advance number) = refl
effect_over mark line cells (follow number) = refl
effect_over mark line cells (fail s) = refl
effect_over mark line cells (mend s) = refl
effect_over mark line cells (close block) = refl
effect_over mark line cells (hand_in number block) = refl
effect_over mark line cells (ask_signal n place) = refl
effect_over mark line cells (ask_name name) = refl
effect_over mark line cells (paint bytes) = refl
