-- How a call of a line ends, over lamps and a track that keep their laws: turned down by what it asks first, turned
-- down by the track, or carried out. The lamps stay as they are.
use Rattle.std.proofs.Common.{◌≡◌, ℕ, List, Some, None, Ok, Err, Result, sym, refl, ap, ◌∙◌}
use Rattle.std.specs.Result.{IsErrAnd}
use Rattle.std.proofs.lemmas.Result.{err_from_is_err_and}
use Rattle.rules.specs.Aspects.{aspect_number}
use Rattle.rules.specs.Calls.{Call, verdict, effect}
use Rattle.rules.specs.Detection.{track_verdict, track_after}
use Rattle.rules.specs.Lines.{Line}
use Rattle.rules.specs.Signals.{Shows}
use Rattle.rules.specs.Table.{topmost, answer, outcome}
use Rattle.rules.specs.TrackRuns.{Lawful}
use Rattle.rules.specs.declared.detection.Cell.{Cell}
use Rattle.rules.specs.declared.detection.TrackCall.{TrackCall}
use Rattle.rules.specs.declared.refusal.Refusal.{Refusal}
use Rattle.promises.specs.Promises.{tells}
use Rattle.line.specs.Exact.{no_room, exact_verdict}
use Rattle.line.specs.Frames.{with_cells}
use Rattle.line.specs.Works.{Works}
use Rattle.line.specs.Worlds.{world}
use Rattle.line.specs.declared.Line.{Line as Built}
use Rattle.line.specs.declared.frame.Frame.{Frame}
use Rattle.line.proofs.Exits.{Exactly, passed, rules_turn_down, carried_out, no_room_left}
use Rattle.line.proofs.Exits.{track_turns_down, track_takes}
use Rattle.line.proofs.Histories.{ends_so}

-- the rules tell the track what a check that found no row came to
told : {S : Type 0} (shows : Shows) (old : Line) (c : Call) (tell : S → TrackCall) (x y : S)
    → Ok y ≡ answer (verdict shows old c) x → tells old c ≡ Some (tell x) → tells old c ≡ Some (tell y)
told shows old c tell x y h says = says ∙ ap (λ z. Some (tell z)) (sym (passed (verdict shows old c) x y h).1)

module _ {X Y : Type 0} {shows : Y → Shows} {mark : ℕ → ℕ} {cells : X → List Cell}
    (stops : (lamps : Y) (m : ℕ) → aspect_number (shows lamps 0 m) ≡ 0)
    (proceeds : (lamps : Y) (r m : ℕ) → aspect_number (shows lamps r m) ≡ 0 → r ≡ 0) (marked : Lawful mark)
    {R : Type 0} {c : Call} {value : R} {line : Built X Y} where
  -- with this track and this frame
  pub ends_with : {result : Result R Refusal} (track : X) (frame : Frame)
      → Exactly (shows line.lamps) mark (world cells line) c value result (with_cells (cells track) frame)
      → Works shows mark cells line c value result (record { track = track; lamps = line.lamps; frame = frame })
  ends_with track frame exact = record {
    ends = ends_so (stops line.lamps) (proceeds line.lamps) marked exact;
    lamps = refl;
  }

  -- a check found a row
  pub ends_at_check : {S : Type 0} {refusal : Refusal} (x : S)
      → Err refusal ≡ answer (verdict (shows line.lamps) (world cells line) c) x
      → Works shows mark cells line c value (Err refusal) line
  ends_at_check {refusal = refusal} x h =
      ends_with line.track line.frame
      (rules_turn_down (shows line.lamps) mark (world cells line) c value x refusal h)

  -- the same, handed on
  pub ends_turned_down : {S : Type 0} {refusal : Refusal} {result : Result R Refusal} (x : S)
      → IsErrAnd result (λ e. e ≡ refusal) → Err refusal ≡ answer (verdict (shows line.lamps) (world cells line) c) x
      → Works shows mark cells line c value result line
  ends_turned_down {result = result} x handed h =
      let p = err_from_is_err_and result handed in
      rw (p.1, p.2) (ends_at_check x h)

  -- no row was found, but no room either
  pub ends_without_room : {S : Type 0} (refusal : Refusal) (x y : S)
      → Ok y ≡ answer (verdict (shows line.lamps) (world cells line) c) x
      → topmost (no_room (world cells line) c) ≡ Some refusal
      → Works shows mark cells line c value (Err refusal) line
  ends_without_room refusal x y h full =
      ends_with line.track line.frame
      (no_room_left (shows line.lamps) mark (world cells line) c value refusal (passed _ x y h).0 full)

  -- no row was found, and the track is not told
  pub ends_carried_out : {S : Type 0} {frame : Frame} (x y : S)
      → Ok y ≡ answer (exact_verdict (shows line.lamps) mark (world cells line) c) x
      → (y ≡ x → with_cells (cells line.track) frame ≡ effect mark (world cells line) c)
      → Works shows mark cells line c value (Ok value)
      (record { track = line.track; lamps = line.lamps; frame = frame })
  ends_carried_out {frame = frame} x y h changed =
      ends_with line.track frame
      (carried_out (shows line.lamps) mark (world cells line) c value x y (with_cells (cells line.track) frame) h
      changed)

  -- no row was found, and the track is told what the check came to
  module _ {S : Type 0} (tell : S → TrackCall) (x y : S)
      (h : Ok y ≡ answer (verdict (shows line.lamps) (world cells line) c) x)
      (roomy : topmost (no_room (world cells line) c) ≡ None)
      (says : tells (world cells line) c ≡ Some (tell x)) {track : X} where
    pub ends_at_track : {refusal : Refusal} {result : Result R Refusal} → IsErrAnd result (λ e. e ≡ refusal)
        → Err refusal ≡ outcome (track_verdict mark (cells line.track) (tell y))
        → cells track ≡ track_after mark (cells line.track) (tell y)
        → Works shows mark cells line c value result
        (record { track = track; lamps = line.lamps; frame = line.frame })
    ends_at_track {refusal = refusal} {result = result} handed down left =
        let p = err_from_is_err_and result handed in
        rw (p.1, p.2) (ends_with track line.frame
        (track_turns_down (shows line.lamps) mark (world cells line) c value (tell y) (passed _ x y h).0 roomy
        (told (shows line.lamps) (world cells line) c tell x y h says)
        (λ them. with_cells them line.frame) (cells track) refusal refl down left))

    pub ends_by_track : {frame : Frame} → Ok tt ≡ outcome (track_verdict mark (cells line.track) (tell y))
        → (y ≡ x → with_cells (cells track) frame ≡ effect mark (world cells line) c)
        → Works shows mark cells line c value (Ok value)
        (record { track = track; lamps = line.lamps; frame = frame })
    ends_by_track {frame = frame} taken changed =
        ends_with track frame
        (track_takes (shows line.lamps) mark (world cells line) c value (tell y) (passed _ x y h).0 roomy
        (told (shows line.lamps) (world cells line) c tell x y h says) (with_cells (cells track) frame) taken
        (changed (passed _ x y h).1))
