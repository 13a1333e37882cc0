-- What a move of a train's front or rear does to the sections that it stands in.
use Rattle.std.proofs.Common.{◌≡◌, ℕ, suc, ◌+◌, ◌-◌, ◌<◌, ◌≤◌, eqb, refl, ap, ◌∙◌, arith}
use Rattle.std.proofs.lemmas.Bool.{le-leb}
use Rattle.rules.specs.Calls.{standing}
use Rattle.rules.specs.Lines.{section_of}
use Rattle.rules.specs.Stations.{other_end}
use Rattle.rules.specs.declared.line.Train.{Train}
use Rattle.promises.specs.Sound.{one_if, times, times_from}
use Rattle.promises.proofs.Occupation.{one_further, same_stretch}
use Rattle.promises.proofs.Fits.{in_far_road}

-- the front at another place, and the far road another
abbrev pub with_front : Train → ℕ → ℕ → Train
with_front train front into = record {
  number = train.number;
  axles = train.axles;
  from = train.from;
  road = train.road;
  rear = train.rear;
  front = front;
  into = into;
}

abbrev pub with_rear : Train → ℕ → Train
with_rear train rear = record {
  number = train.number;
  axles = train.axles;
  from = train.from;
  road = train.road;
  rear = rear;
  front = train.front;
  into = train.into;
}

-- the far road is not seen from before the far station
into_unseen : (n : ℕ) (train : Train) (front into e : ℕ) → e ≤ n
    → section_of n (with_front train front into) e ≡ section_of n train e
into_unseen n train front into e h = rw (le-leb e n h)

-- a front one place on stands in one section more
pub front_on : (n s : ℕ) (train : Train) (into : ℕ) → train.rear ≤ train.front → train.front ≤ n
    → times n s (with_front train (train.front + 1) into)
    ≡ times n s train + one_if (eqb (section_of n (with_front train (train.front + 1) into) (train.front + 1)) s)
front_on n s train into behind short =
    let moved = with_front train (train.front + 1) into in
    let span = (train.front + 1) - train.rear in
    let longer : (train.front + 1 + 1) - train.rear ≡ suc span = omega arith in
    let end : train.rear + span ≡ train.front + 1 = omega arith in
    ap (times_from n moved s train.rear) longer
    ∙ one_further n moved s train.rear span
    ∙ rw end (ap (λ t. t + one_if (eqb (section_of n moved (train.front + 1)) s))
    (same_stretch n moved train s train.rear span
    (λ e low high. into_unseen n train (train.front + 1) into e (omega arith))))

-- a rear one place on stands in one section less
pub rear_on : (n s : ℕ) (train : Train) → train.rear < train.front
    → times n s train
    ≡ one_if (eqb (section_of n train train.rear) s) + times n s (with_rear train (train.rear + 1))
rear_on n s train behind =
    let span = (train.front + 1) - (train.rear + 1) in
    let longer : (train.front + 1) - train.rear ≡ suc span = omega arith in
    ap (times_from n train s train.rear) longer

-- come wholly in, it stands in its far road alone
pub in_at_last : (n s : ℕ) (train : Train) → train.front ≡ n + 1
    → times n s (with_rear train (n + 1))
    ≡ times n s (standing train.number train.axles (other_end train.from) train.into)
in_at_last n s train there =
    let one : (train.front + 1) - (n + 1) ≡ 1 = omega arith in
    ap (times_from n train s (n + 1)) one ∙ rw (in_far_road n train (n + 1) (omega arith)) refl
