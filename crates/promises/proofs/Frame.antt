-- The lever frame shows one of ten rows.
use Rattle.std.proofs.Common.{◌≡◌, Bool, true, false, cond, not, ◌&&◌, eqb, [], ◌∷◌, ◌++◌, is_some, Some, None}
use Rattle.std.proofs.Common.{Option, refl, inl, inr}
use Rattle.std.proofs.lemmas.Bool.{both_ways}
use Rattle.rules.specs.Calls.{some_station, direction, rows, verdict, reversed}
use Rattle.rules.specs.LineRuns.{after_all}
use Rattle.rules.specs.Lines.{Line, new_line, levers_at, sends}
use Rattle.rules.specs.Signals.{Shows}
use Rattle.rules.specs.Stations.{station_number, other_end}
use Rattle.rules.specs.declared.line.Station.{Station}
use Rattle.rules.specs.declared.line.Station.TheVariants.{EndA, EndB}
use Rattle.rules.specs.declared.refusal.Refusal.{Refusal}
use Rattle.rules.proofs.Rows.{none_hold, some_row}
use Rattle.promises.specs.Promises.{LeverFrame, frame_rows, is_a_row}
use Rattle.promises.proofs.Always.{always}
use Rattle.promises.proofs.OneWay.{and_swap}

-- what ties the six lamps of a frame together
record Tied (a ra la b rb lb : Bool) : Type 0 where
  not_both : (a && b) ≡ false
  starter_a : ra ≡ true → a ≡ true
  starter_b : rb ≡ true → b ≡ true
  far_a : b ≡ true → la ≡ true
  far_b : a ≡ true → lb ≡ true
  lock_a : ra ≡ true → la ≡ true
  lock_b : rb ≡ true → lb ≡ true

one_of_ten : (a ra la b rb lb : Bool) → Tied a ra la b rb lb
    → is_a_row ((a ∷ ra ∷ la ∷ []) ++ (b ∷ rb ∷ lb ∷ [])) frame_rows ≡ true
one_of_ten true ra la true rb lb t = absurd (both_ways true t.not_both refl)
one_of_ten true ra la false true lb t = absurd (both_ways false refl (t.starter_b refl))
one_of_ten true ra la false false false t = absurd (both_ways false refl (t.far_b refl))
one_of_ten true true false false false true t = absurd (both_ways false refl (t.lock_a refl))
one_of_ten true true true false false true t = refl
one_of_ten true false false false false true t = refl
one_of_ten true false true false false true t = refl
one_of_ten false true la b rb lb t = absurd (both_ways false refl (t.starter_a refl))
one_of_ten false false false true rb lb t = absurd (both_ways false refl (t.far_a refl))
one_of_ten false false true true true false t = absurd (both_ways false refl (t.lock_b refl))
one_of_ten false false true true true true t = refl
one_of_ten false false true true false false t = refl
one_of_ten false false true true false true t = refl
one_of_ten false false la false true lb t = absurd (both_ways false refl (t.starter_b refl))
one_of_ten false false true false false true t = refl
one_of_ten false false true false false false t = refl
one_of_ten false false false false false true t = refl
one_of_ten false false false false false false t = refl

-- a lamp is lit where a row is met
lamp : Shows → Line → Station → Option Refusal
lamp shows line station = verdict shows line (direction (station_number station) (not (sends line station)))

pub known_station : (station : Station) → some_station (station_number station) ≡ station
known_station EndA = refl
known_station EndB = refl

-- the far end sending, or the starter reversed, lights it
far_lights : (shows : Shows) (line : Line) (station : Station) → sends line station ≡ false
    → sends line (other_end station) ≡ true → is_some (lamp shows line station) ≡ true
unfolding lamp
far_lights shows line station here far =
    some_row (lamp shows line station) (λ none.
    let passed = none_hold (rows shows line (direction (station_number station) (not (sends line station)))) none in
    both_ways _ (rw (known_station station, here) at passed.1.1.1.0) far)

starter_lights : (shows : Shows) (line : Line) (station : Station) → sends line station ≡ true
    → reversed (levers_at line station).starter ≡ true → is_some (lamp shows line station) ≡ true
unfolding lamp
starter_lights shows line station here set =
    some_row (lamp shows line station) (λ none.
    let passed = none_hold (rows shows line (direction (station_number station) (not (sends line station)))) none in
    both_ways _ (rw (known_station station, here) at passed.1.1.1.1.0) set)

-- a lamp's byte is 1 where it is lit
lit_flag : (met : Option Refusal) → eqb (cond (is_some met) 1 0) 1 ≡ is_some met
lit_flag None = refl
lit_flag (Some refusal) = refl

-- not both: where one sends the other does not
silent : (a b : Bool) → (a && b) ≡ false → b ≡ true → a ≡ false
silent true b h e = absurd (both_ways b h e)
silent false b h e = refl

pub lever_frame : LeverFrame
unfolding lamp
lever_frame shows lamps mark lawful cells sized calls laid =
    let line = after_all shows mark (new_line cells) calls in
    elim (always shows lamps mark lawful cells sized calls) [
      | inl blank ↦ absurd (both_ways _ laid (rw blank.none_laid))
      | inr sound ↦
          let far_end_a = silent (sends line EndA) (sends line EndB) sound.one_way in
          let far_end_b =
          silent (sends line EndB) (sends line EndA)
          (and_swap (sends line EndA) (sends line EndB) sound.one_way) in
          rw (lit_flag (lamp shows line EndA), lit_flag (lamp shows line EndB))
          (one_of_ten _ _ _ _ _ _ (record {
            not_both = sound.one_way;
            starter_a = (sound.levers EndA).starter_way;
            starter_b = (sound.levers EndB).starter_way;
            far_a = λ h. far_lights shows line EndA (far_end_a h) h;
            far_b = λ h. far_lights shows line EndB (far_end_b h) h;
            lock_a = λ h. starter_lights shows line EndA ((sound.levers EndA).starter_way h) h;
            lock_b = λ h. starter_lights shows line EndB ((sound.levers EndB).starter_way h) h;
          }))
    ]
