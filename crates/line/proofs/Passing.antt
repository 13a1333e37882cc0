-- What a line asks before it passes a failing or a mending on, what the track asks again, and how either call ends.
use Rattle.std.proofs.Common.{◌≡◌, ℕ, Bool, true, false, List, [], ◌∷◌, ◌++◌, Some, None, Ok, Err, Result, refl, ◌∙◌}
use Rattle.std.specs.Result.{IsErrAnd}
use Rattle.std.proofs.lemmas.Result.{err_from_is_err_and}
use Rattle.rules.specs.Aspects.{aspect_number}
use Rattle.rules.specs.Calls.{Call, fail, mend, effect, not_laid, not_in_use}
use Rattle.rules.specs.Detection.{cell_of, legal_section, no_section, so_already, track_verdict, track_after, Ends}
use Rattle.rules.specs.Lines.{Line}
use Rattle.rules.specs.Signals.{Shows}
use Rattle.rules.specs.Table.{Row, topmost, answer}
use Rattle.rules.specs.TrackRuns.{Lawful}
use Rattle.rules.specs.declared.detection.Cell.{Cell}
use Rattle.rules.specs.declared.detection.TrackCall.{TrackCall}
use Rattle.rules.specs.declared.detection.TrackCall.TheVariants.{Fail, Mend}
use Rattle.rules.specs.declared.refusal.Refusal.{Refusal}
use Rattle.rules.specs.declared.refusal.Refusal.TheVariants.{SoAlready}
use Rattle.line.specs.Exact.{exact_verdict}
use Rattle.line.specs.Frames.{with_cells}
use Rattle.line.specs.Works.{Works}
use Rattle.line.specs.Worlds.{world}
use Rattle.line.specs.declared.Line.{Line as Built}
use Rattle.line.specs.declared.frame.Frame.{Frame}
use Rattle.line.proofs.Ending.{ends_with}
use Rattle.line.proofs.Exits.{stopped, passed, row_in_front, row_in_rest, ends_refused, passed_on}

-- of a section that the track has, asking twice is asking once
asked_twice : (s : ℕ) (failed wanted : Bool) (first : Bool) → legal_section s ≡ true
    → first ≡ (so_already failed wanted).1
    → topmost ((SoAlready, first) ∷ no_section s ∷ so_already failed wanted ∷ [])
    ≡ topmost (no_section s ∷ so_already failed wanted ∷ [])
asked_twice s true true first legal same = rw (same, legal)
asked_twice s true false first legal same = rw (same, legal)
asked_twice s false true first legal same = rw (same, legal)
asked_twice s false false first legal same = rw (same, legal)

module _ (line : Line) (s : ℕ) (wanted : Bool) where
  -- what the line asks first, and what it and the track ask then: the order of the section, failed or mended
  abbrev front : List Row
  front = not_laid line ∷ not_in_use line s ∷ []

  abbrev failed : Bool
  failed = (cell_of line.cells s).failed

  abbrev rest : List Row
  rest = (SoAlready, (so_already failed wanted).1) ∷ no_section s ∷ so_already failed wanted ∷ []

  not_passed_on : (refusal : Refusal) → Err refusal ≡ answer (topmost front) s
      → topmost (front ++ rest) ≡ Some refusal
  not_passed_on refusal h = row_in_front front rest refusal (stopped _ s refusal h)

  the_track_decides : topmost front ≡ None → legal_section s ≡ true
      → topmost (front ++ rest) ≡ topmost (no_section s ∷ so_already failed wanted ∷ [])
  the_track_decides none legal = row_in_rest front rest none ∙ asked_twice s failed wanted _ legal refl

-- a failing or a mending, and what the track is told
abbrev pub order : Bool → ℕ → Call
order true s = fail s
order false s = mend s

abbrev pub order_told : Bool → ℕ → TrackCall
order_told true s = Fail s
order_told false s = Mend s

order_asks : (shows : Shows) (mark : ℕ → ℕ) (line : Line) (s : ℕ) (wanted : Bool)
    → exact_verdict shows mark line (order wanted s) ≡ topmost (front line s wanted ++ rest line s wanted)
order_asks shows mark line s true = refl
order_asks shows mark line s false = refl

track_asks : (mark : ℕ → ℕ) (cells : List Cell) (s : ℕ) (wanted : Bool)
    → topmost (no_section s ∷ so_already (cell_of cells s).failed wanted ∷ [])
    ≡ track_verdict mark cells (order_told wanted s)
track_asks mark cells s true = refl
track_asks mark cells s false = refl

changes_cells : (mark : ℕ → ℕ) (cells : List Cell) (frame : Frame) (s : ℕ) (wanted : Bool)
    → effect mark (with_cells cells frame) (order wanted s)
    ≡ with_cells (track_after mark cells (order_told wanted s)) frame
changes_cells mark cells frame s true = refl
changes_cells mark cells frame s false = refl

module _ {X Y : Type 0} {shows : Y → Shows} {mark : ℕ → ℕ} {cells : X → List Cell}
    (stops : (lamps : Y) (m : ℕ) → aspect_number (shows lamps 0 m) ≡ 0)
    (proceeds : (lamps : Y) (r m : ℕ) → aspect_number (shows lamps r m) ≡ 0 → r ≡ 0) (marked : Lawful mark)
    (line : Built X Y) (s : ℕ) (wanted : Bool) where
  -- not passed on
  pub order_stopped : {result : Result (Unit {0}) Refusal} {refusal : Refusal} → IsErrAnd result (λ e. e ≡ refusal)
      → Err refusal ≡ answer (topmost (front (world cells line) s wanted)) s
      → Works shows mark cells line (order wanted s) tt result line
  order_stopped {result = result} {refusal = refusal} handed h =
      let p = err_from_is_err_and result handed in
      let old = world cells line in
      rw (p.1, p.2) (ends_with stops proceeds marked line.track line.frame
      (ends_refused (shows line.lamps) mark old (order wanted s) tt refusal
      (order_asks (shows line.lamps) mark old s wanted ∙ not_passed_on old s wanted refusal h)))

  -- passed on, and answered by the track
  pub order_passed_on : {result : Result (Unit {0}) Refusal} {asked : ℕ} {track : X}
      → Ok asked ≡ answer (topmost (front (world cells line) s wanted)) s → legal_section asked ≡ true
      → Ends mark (cells line.track) (order_told wanted asked) result (cells track)
      → Works shows mark cells line (order wanted s) tt result
      (record { track = track; lamps = line.lamps; frame = line.frame })
  order_passed_on {result = result} {track = track} h legal told =
      let old = world cells line in
      let met = passed (topmost (front old s wanted)) s _ h in
      let ends : Ends mark (cells line.track) (order_told wanted s) result (cells track) = rw met.1 at told in
      ends_with stops proceeds marked track line.frame
      (passed_on (shows line.lamps) mark old (order wanted s) (order_told wanted s)
      (order_asks (shows line.lamps) mark old s wanted ∙ the_track_decides old s wanted met.0 (rw met.1 at legal)
      ∙ track_asks mark (cells line.track) s wanted)
      (λ them. with_cells them line.frame) refl (changes_cells mark (cells line.track) line.frame s wanted)
      result (cells track) ends.answer ends.after)
