-- Two boxes given the same calls go on alike, whatever their tracks keep of a train.
use Rattle.std.proofs.Common.{◌≡◌, ℕ, ◌-◌, Bool, true, false, ltb, List, [], ◌∷◌, length, Some, None, Option, sym}
use Rattle.std.proofs.Common.{refl, ap, ◌∙◌, subst, inl, inr, arith}
use Rattle.std.proofs.lemmas.List.{get_or-set_same, get_or-set_other, get_or_past, set_past}
use Rattle.std.proofs.lemmas.Bool.{cases_eq, cases_lt, both_ways, le-leb, and_from, lt-ltb}
use Rattle.rules.specs.Calls.{Call, ask_signal, verdict, effect, line_after, cells_told}
use Rattle.promises.specs.Promises.{tells}
use Rattle.rules.specs.Detection.{new_cell, new_cells, cell_of, with_cell, with_failed, state_of}
use Rattle.rules.specs.Detection.{legal_section}
use Rattle.rules.specs.Detection.{no_section, so_already, track_verdict, track_effect, track_after}
use Rattle.rules.specs.LineRuns.{answers, answer_to, after_all}
use Rattle.rules.specs.Lines.{Line, new_line, blocks}
use Rattle.rules.specs.Panels.{panel}
use Rattle.rules.specs.Signals.{Shows}
use Rattle.rules.specs.Table.{after, topmost}
use Rattle.rules.specs.TrackRuns.{Lawful}
use Rattle.rules.specs.declared.detection.Cell.{Cell}
use Rattle.rules.specs.declared.detection.TrackCall.{TrackCall}
use Rattle.rules.specs.declared.detection.TrackCall.TheVariants.{State, Enter, Leave, Fail, Mend}
use Rattle.rules.specs.declared.refusal.Refusal.{Refusal}
use Rattle.promises.specs.Promises.{LawfulLamps, SameLeversSameLamps}
use Rattle.promises.proofs.Alike.{over, ReadsAlike, same_verdict, same_answer, same_panel, effect_over}
use Rattle.promises.proofs.Always.{after_any, from_laid}
use Rattle.promises.proofs.Promised.{bare_tells_nothing}
use Rattle.promises.specs.Sound.{Blank, Kept, Sound, load, total}
use Rattle.promises.proofs.Sound.{all_legal}
use Rattle.promises.proofs.Totals.{none_weighs_none, nothing_held_none_stands}

-- the order of a section after another cell was put in one place
put_order : (cells : List Cell) (t s : ℕ) (cell : Cell) → cell.failed ≡ (cell_of cells t).failed
    → (cell_of (with_cell cells t cell) s).failed ≡ (cell_of cells s).failed
put_order cells t s cell same =
    elim (cases_eq (s - 1) (t - 1)) [
      | inl e ↦ elim (cases_lt (t - 1) (length cells)) [
        | inl in_list ↦
            rw e (ap (λ c. c.failed) (get_or-set_same cells (t - 1) cell new_cell in_list) ∙ same)
        | inr past ↦ rw (set_past cells (t - 1) cell past)
      ]
      | inr other ↦ ap (λ c. c.failed) (get_or-set_other cells (t - 1) (s - 1) cell new_cell other)
    ]

-- an entering or a leaving puts nothing out of order
pub enter_order : (mark : ℕ → ℕ) (cells : List Cell) (t n s : ℕ)
    → (cell_of (track_after mark cells (Enter t n)) s).failed ≡ (cell_of cells s).failed
enter_order mark cells t n s = by_verdict (track_verdict mark cells (Enter t n)) where
  by_verdict : (met : Option Refusal)
      → (cell_of (after met cells (track_effect mark cells (Enter t n))) s).failed ≡ (cell_of cells s).failed
  by_verdict None = put_order cells t s _ refl
  by_verdict (Some refusal) = refl

pub leave_order : (mark : ℕ → ℕ) (cells : List Cell) (t n s : ℕ)
    → (cell_of (track_after mark cells (Leave t n)) s).failed ≡ (cell_of cells s).failed
leave_order mark cells t n s = by_verdict (track_verdict mark cells (Leave t n)) where
  by_verdict : (met : Option Refusal)
      → (cell_of (after met cells (track_effect mark cells (Leave t n))) s).failed ≡ (cell_of cells s).failed
  by_verdict None = put_order cells t s _ refl
  by_verdict (Some refusal) = refl

-- two tracks put out of order, or back in order, at one section
both_order : (one two : List Cell) (t s : ℕ) (b : Bool) → length one ≡ length two
    → ((r : ℕ) → (cell_of one r).failed ≡ (cell_of two r).failed)
    → (cell_of (with_cell one t (with_failed (cell_of one t) b)) s).failed
    ≡ (cell_of (with_cell two t (with_failed (cell_of two t) b)) s).failed
both_order one two t s b long alike =
    elim (cases_eq (s - 1) (t - 1)) [
      | inl e ↦ elim (cases_lt (t - 1) (length one)) [
        | inl in_list ↦
            rw e
            (ap (λ c. c.failed) (get_or-set_same one (t - 1) (with_failed (cell_of one t) b) new_cell in_list)
            ∙ sym (ap (λ c. c.failed)
            (get_or-set_same two (t - 1) (with_failed (cell_of two t) b) new_cell (omega arith))))
        | inr past ↦
            rw (
              set_past one (t - 1) (with_failed (cell_of one t) b) past,
              set_past two (t - 1) (with_failed (cell_of two t) b) (omega arith),
            ) (alike s)
      ]
      | inr other ↦
          ap (λ c. c.failed) (get_or-set_other one (t - 1) (s - 1) (with_failed (cell_of one t) b) new_cell other)
          ∙ alike s
          ∙ sym (ap (λ c. c.failed)
          (get_or-set_other two (t - 1) (s - 1) (with_failed (cell_of two t) b) new_cell other))
    ]

-- told the same, two tracks keep the same order, whatever their marks
module _ (mark_1 mark_2 : ℕ → ℕ) (one two : List Cell) (long : length one ≡ length two)
    (alike : (r : ℕ) → (cell_of one r).failed ≡ (cell_of two r).failed) where
  order_then : (call : TrackCall) (s : ℕ)
      → (cell_of (track_after mark_1 one call) s).failed ≡ (cell_of (track_after mark_2 two call) s).failed
  order_then (State t) s = state_same where
    state_same : (cell_of (track_after mark_1 one (State t)) s).failed
        ≡ (cell_of (track_after mark_2 two (State t)) s).failed
    state_same = by_verdict (track_verdict mark_1 one (State t)) where
      by_verdict : (met : Option Refusal)
          → (cell_of (after met one one) s).failed ≡ (cell_of (after met two two) s).failed
      by_verdict None = alike s
      by_verdict (Some refusal) = alike s
  order_then (Enter t n) s = enter_order mark_1 one t n s ∙ alike s ∙ sym (enter_order mark_2 two t n s)
  order_then (Leave t n) s = leave_order mark_1 one t n s ∙ alike s ∙ sym (leave_order mark_2 two t n s)
  order_then (Fail t) s =
      rw (sym (ap (λ b. topmost (no_section t ∷ so_already b true ∷ [])) (alike t)))
      (by_verdict (track_verdict mark_1 one (Fail t))) where
        by_verdict : (met : Option Refusal)
            → (cell_of (after met one (with_cell one t (with_failed (cell_of one t) true))) s).failed
            ≡ (cell_of (after met two (with_cell two t (with_failed (cell_of two t) true))) s).failed
        by_verdict None = both_order one two t s true long alike
        by_verdict (Some refusal) = alike s
  order_then (Mend t) s =
      rw (sym (ap (λ b. topmost (no_section t ∷ so_already b false ∷ [])) (alike t)))
      (by_verdict (track_verdict mark_1 one (Mend t))) where
        by_verdict : (met : Option Refusal)
            → (cell_of (after met one (with_cell one t (with_failed (cell_of one t) false))) s).failed
            ≡ (cell_of (after met two (with_cell two t (with_failed (cell_of two t) false))) s).failed
        by_verdict None = both_order one two t s false long alike
        by_verdict (Some refusal) = alike s

-- a section is held on one track exactly where it is on the other
same_held : (mark_1 mark_2 : ℕ → ℕ) → Lawful mark_1 → Lawful mark_2 → (line : Line) (one two : List Cell)
    → Sound mark_1 (over line one) → Sound mark_2 (over line two) → (s : ℕ) → legal_section s ≡ true
    → ltb 0 (cell_of one s).held ≡ ltb 0 (cell_of two s).held
same_held mark_1 mark_2 lawful_1 lawful_2 line one two sound_1 sound_2 s legal =
    let n = blocks line in
    let held_1 = sound_1.agree.held s legal in
    let held_2 = sound_2.agree.held s legal in
    elim (cases_eq (total n s line.trains) 0) [
      | inl none ↦
          rw (
            held_1,
            held_2,
            none_weighs_none mark_1 n s line.trains none,
            none_weighs_none mark_2 n s
                line.trains none,
          )
      | inr some ↦
          let not_1 : load mark_1 n s line.trains ≡ 0 → ⊥ =
          λ h. some (nothing_held_none_stands mark_1 lawful_1 n s line.trains
          (all_legal mark_1 lawful_1 (over line one) sound_1) h) in
          let not_2 : load mark_2 n s line.trains ≡ 0 → ⊥ =
          λ h. some (nothing_held_none_stands mark_2 lawful_2 n s line.trains
          (all_legal mark_2 lawful_2 (over line two) sound_2) h) in
          lt-ltb 0 (cell_of one s).held (omega (arith, held_1, not_1))
          ∙ sym (lt-ltb 0 (cell_of two s).held (omega (arith, held_2, not_2)))
    ]

reads_same : (a b : Cell) → a.failed ≡ b.failed → ltb 0 a.held ≡ ltb 0 b.held → state_of a ≡ state_of b
reads_same a b order held = rw (order, held)

alike_laid : (mark_1 mark_2 : ℕ → ℕ) → Lawful mark_1 → Lawful mark_2 → (line : Line) (one two : List Cell)
    → Sound mark_1 (over line one) → Sound mark_2 (over line two)
    → ((r : ℕ) → (cell_of one r).failed ≡ (cell_of two r).failed) → ReadsAlike one two
alike_laid mark_1 mark_2 lawful_1 lawful_2 line one two sound_1 sound_2 order = record {
  states = λ s.
      elim (cases_lt s 1) [
        | inl none ↦
            let at : s ≡ 0 = omega arith in
            rw at (legal_case 1 refl)
        | inr low ↦ elim (cases_lt 24 s) [
          | inl past ↦
              rw (
                get_or_past one (s - 1) new_cell (omega (arith, sound_1.agree.sized)),
                get_or_past two (s - 1) new_cell (omega (arith, sound_2.agree.sized)),
              )
          | inr high ↦ legal_case s (and_from _ _ (le-leb 1 s low) (le-leb s 24 high))
        ]
      ];
  order = order;
} where
  legal_case : (s : ℕ) → legal_section s ≡ true → state_of (cell_of one s) ≡ state_of (cell_of two s)
  legal_case s legal =
      reads_same (cell_of one s) (cell_of two s) (order s)
      (same_held mark_1 mark_2 lawful_1 lawful_2 line one two sound_1 sound_2 s legal)

module _ (shows : Shows) (lamps : LawfulLamps shows) (mark_1 mark_2 : ℕ → ℕ) (lawful_1 : Lawful mark_1)
    (lawful_2 : Lawful mark_2) where
  -- two lines that differ in their cells alone and read alike
  record Twins (line : Line) (one two : List Cell) : Type 0 where
    alike : ReadsAlike one two
    kept_1 : Kept mark_1 (over line one)
    kept_2 : Kept mark_2 (over line two)

  -- the same call leaves such lines again
  record Next (line : Line) (one two : List Cell) (c : Call) : Type 0 where
    then : Line
    one_then : List Cell
    two_then : List Cell
    first : line_after shows mark_1 (over line one) c ≡ over then one_then
    second : line_after shows mark_2 (over line two) c ≡ over then two_then
    twins : Twins then one_then two_then

  -- a bare line beside a laid one cannot be
  never_one_bare : (line : Line) (one two : List Cell) (mark : ℕ → ℕ) → Blank (over line one)
      → Sound mark (over line two) → ⊥
  never_one_bare line one two mark blank sound = both_ways _ sound.laid (rw blank.none_laid)

  -- what was told was told to both, and they read alike after it
  alike_then : (line : Line) (one two : List Cell) (c : Call) → Twins line one two
      → verdict shows (over line one) c ≡ None → verdict shows (over line two) c ≡ None
      → ReadsAlike (cells_told mark_1 one (tells line c)) (cells_told mark_2 two (tells line c))
  alike_then line one two c twins none_1 none_2 =
      elim twins.kept_1 [
        | inl blank ↦ rw (bare_tells_nothing shows (over line one) blank c none_1) twins.alike
        | inr sound_1 ↦ elim twins.kept_2 [
          | inl blank ↦ absurd (never_one_bare line two one mark_1 blank sound_1)
          | inr sound_2 ↦
              let next_1 =
              rw (effect_over mark_1 line one c) at
              (from_laid shows lamps mark_1 lawful_1 (over line one) sound_1 c none_1) in
              let next_2 =
              rw (effect_over mark_2 line two c) at
              (from_laid shows lamps mark_2 lawful_2 (over line two) sound_2 c none_2) in
              let long : length one ≡ length two = sound_1.agree.sized ∙ sym sound_2.agree.sized in
              alike_laid mark_1 mark_2 lawful_1 lawful_2 (effect (λ n. n) line c) _ _ next_1 next_2
              (order_told long (tells line c))
        ]
      ] where
        order_told : length one ≡ length two → (told : Option TrackCall) (r : ℕ)
            → (cell_of (cells_told mark_1 one told) r).failed ≡ (cell_of (cells_told mark_2 two told) r).failed
        order_told long None r = twins.alike.order r
        order_told long (Some call) r = order_then mark_1 mark_2 one two long twins.alike.order call r

  next : (line : Line) (one two : List Cell) (c : Call) → Twins line one two → Next line one two c
  next line one two c twins = by_verdict (verdict shows (over line one) c) refl where
    kept_1 : Kept mark_1 (line_after shows mark_1 (over line one) c)
    kept_1 = after_any shows lamps mark_1 lawful_1 (over line one) c twins.kept_1

    kept_2 : Kept mark_2 (line_after shows mark_2 (over line two) c)
    kept_2 = after_any shows lamps mark_2 lawful_2 (over line two) c twins.kept_2

    by_verdict : (met : Option Refusal) → verdict shows (over line one) c ≡ met → Next line one two c
    by_verdict (Some refusal) e =
        let met_2 : verdict shows (over line two) c ≡ Some refusal =
        sym (same_verdict line one two twins.alike shows c) ∙ e in
        record {
          then = line;
          one_then = one;
          two_then = two;
          first = ap (λ v. after v (over line one) (effect mark_1 (over line one) c)) e;
          second = ap (λ v. after v (over line two) (effect mark_2 (over line two) c)) met_2;
          twins = twins;
        }
    by_verdict None e =
        let met_2 : verdict shows (over line two) c ≡ None =
        sym (same_verdict line one two twins.alike shows c) ∙ e in
        let is_1 =
        ap (λ v. after v (over line one) (effect mark_1 (over line one) c)) e ∙ effect_over mark_1 line one c in
        let is_2 =
        ap (λ v. after v (over line two) (effect mark_2 (over line two) c)) met_2
        ∙ effect_over mark_2 line two c in
        record {
          then = effect (λ n. n) line c;
          one_then = cells_told mark_1 one (tells line c);
          two_then = cells_told mark_2 two (tells line c);
          first = is_1;
          second = is_2;
          twins = record {
            alike = alike_then line one two c twins e met_2;
            kept_1 = rw is_1 at kept_1;
            kept_2 = rw is_2 at kept_2;
          };
        }

  abbrev Same : Line → Line → List Call → Type 0
  Same a b calls =
      (answers shows mark_1 a calls ≡ answers shows mark_2 b calls)
      × ((n place : ℕ) → answer_to shows (after_all shows mark_1 a calls) (ask_signal n place)
      ≡ answer_to shows (after_all shows mark_2 b calls) (ask_signal n place))
      × (panel shows (after_all shows mark_1 a calls) ≡ panel shows (after_all shows mark_2 b calls))

  -- two lines that answer one call alike and go on alike
  abbrev AfterOne : Line → Line → Call → List Call → Line → Line → Type 0
  AfterOne a b c calls x y =
      (answer_to shows a c ∷ answers shows mark_1 x calls ≡ answer_to shows b c ∷ answers shows mark_2 y calls)
      × ((n place : ℕ) → answer_to shows (after_all shows mark_1 x calls) (ask_signal n place)
      ≡ answer_to shows (after_all shows mark_2 y calls) (ask_signal n place))
      × (panel shows (after_all shows mark_1 x calls) ≡ panel shows (after_all shows mark_2 y calls))

  one_more : (a b x y : Line) (c : Call) (calls : List Call) → line_after shows mark_1 a c ≡ x
      → line_after shows mark_2 b c ≡ y
      → answer_to shows a c ≡ answer_to shows b c → Same x y calls → Same a b (c ∷ calls)
  one_more a b x y c calls is_x is_y answer later =
      subst (λ (l : Line). AfterOne a b c calls l (line_after shows mark_2 b c)) (sym is_x)
      (subst (λ (l : Line). AfterOne a b c calls x l) (sym is_y) (
        ap (λ first. first ∷ answers shows mark_1 x calls) answer ∙ ap (λ rest. answer_to shows b c ∷ rest) later.0,
        later.1,
        later.2,
      ))

  same_on : (line : Line) (one two : List Cell) (calls : List Call) → Twins line one two
      → Same (over line one) (over line two) calls
  same_on line one two [] twins = (
    refl,
    λ n place. same_answer line one two twins.alike shows (ask_signal n place),
    same_panel line one two twins.alike shows,
  )
  same_on line one two (c ∷ calls) twins =
      let on = next line one two c twins in
      one_more (over line one) (over line two) (over on.then on.one_then)
      (over on.then on.two_then) c calls
      on.first on.second (same_answer line one two twins.alike shows c)
      (same_on on.then on.one_then on.two_then calls on.twins)

new_sized : length new_cells ≡ 24
unfolding new_cells
new_sized = refl

pub same_levers_same_lamps : SameLeversSameLamps
same_levers_same_lamps shows lamps one two lawful_1 lawful_2 calls =
    let line = new_line new_cells in
    same_on shows lamps one two lawful_1 lawful_2 line new_cells new_cells calls (record {
      alike = record { states = λ s. refl; order = λ s. refl };
      kept_1 = inl (record {
        none_laid = refl;
        no_trains = refl;
        all_open = refl;
        levers_a = refl;
        levers_b = refl;
        sized = new_sized;
      });
      kept_2 = inl (record {
        none_laid = refl;
        no_trains = refl;
        all_open = refl;
        levers_a = refl;
        levers_b = refl;
        sized = new_sized;
      });
    })
