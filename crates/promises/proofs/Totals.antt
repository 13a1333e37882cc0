-- The trains of a line in one section, all told: how many, and what they make it hold.
use Rattle.std.proofs.Common.{◌≡◌, ℕ, zero, suc, ◌+◌, ◌*◌, ◌<◌, ◌≤◌, true, List, [], ◌∷◌, ◌++◌, length, get_or, take}
use Rattle.std.proofs.Common.{drop, sum_by, sym, refl, ◌∙◌, suc-mul, one-mul, zero-mul, arith}
use Rattle.std.specs.List.{AllByRecursion}
use Rattle.std.proofs.lemmas.List.Sums.{sum_by-cons, sum_by-append, sum_by-take-drop, sum_by-drop_more}
use Rattle.rules.specs.Detection.{legal_axles}
use Rattle.rules.specs.TrackRuns.{Lawful}
use Rattle.rules.specs.declared.line.Train.{Train}
use Rattle.promises.specs.Sound.{load, times, total, weight}

abbrev pub Legal : Train → Type 0
Legal train = legal_axles train.axles ≡ true

-- where none stands, nothing is held
pub none_weighs_none : (mark : ℕ → ℕ) (n s : ℕ) (trains : List Train) → total n s trains ≡ 0 → load mark n s trains ≡ 0
none_weighs_none mark n s [] h = refl
none_weighs_none mark n s (train ∷ trains) h =
    let parts = sum_by-cons (times n s) train trains in
    let first : times n s train ≡ 0 = omega (arith, parts) in
    let rest : total n s trains ≡ 0 = omega (arith, parts) in
    sum_by-cons (weight mark n s) train trains
    ∙ rw (first, none_weighs_none mark n s trains rest) (omega (arith, zero-mul (mark train.axles)))

weighs : (t m : ℕ) → 1 ≤ m → t * m ≡ 0 → t ≡ 0
weighs zero m low h = refl
weighs (suc t) m low h = absurd (omega (arith, suc-mul t m))

-- and where nothing is held, none stands
pub nothing_held_none_stands : (mark : ℕ → ℕ) → Lawful mark → (n s : ℕ) (trains : List Train)
    → AllByRecursion Legal trains
    → load mark n s trains ≡ 0 → total n s trains ≡ 0
nothing_held_none_stands mark lawful n s [] legal h = refl
nothing_held_none_stands mark lawful n s (train ∷ trains) legal h =
    let parts = sum_by-cons (weight mark n s) train trains in
    let first : weight mark n s train ≡ 0 = omega (arith, parts) in
    let rest : load mark n s trains ≡ 0 = omega (arith, parts) in
    let absent : times n s train ≡ 0 =
    weighs (times n s train) (mark train.axles) (lawful train.axles legal.0) first in
    sum_by-cons (times n s) train trains
    ∙ omega (arith, absent, nothing_held_none_stands mark lawful n s trains legal.1 rest)

-- a list around one of its trains
around : (f : Train → ℕ) (trains : List Train) (i : ℕ) (d : Train) → i < length trains
    → sum_by f trains ≡ sum_by f (take i trains ++ drop (i + 1) trains) + f (get_or trains i d)
around f trains i d h =
    omega (
      arith,
      sum_by-take-drop f trains i,
      sum_by-drop_more f trains i d h,
      sum_by-append f (take i trains)
          (drop (i + 1) trains),
    )

pub removed : (f : Train → ℕ) (trains : List Train) (i : ℕ) (d : Train) → i < length trains
    → sum_by f (take i trains ++ drop (i + 1) trains) + f (get_or trains i d) ≡ sum_by f trains
removed f trains i d h = sym (around f trains i d h)

-- where a train stands and at most one does, it stands there once and the section holds its mark
pub alone : (mark : ℕ → ℕ) (n s : ℕ) (trains : List Train) (i : ℕ) (d : Train) → i < length trains
    → 1 ≤ times n s (get_or trains i d) → total n s trains ≤ 1
    → (times n s (get_or trains i d) ≡ 1) × (load mark n s trains ≡ mark (get_or trains i d).axles)
alone mark n s trains i d h here most =
    let train = get_or trains i d in
    let others = take i trains ++ drop (i + 1) trains in
    let apart : total n s others + times n s train ≡ total n s trains = removed (times n s) trains i d h in
    let none : total n s others ≡ 0 = omega (arith, apart) in
    let once : times n s train ≡ 1 = omega (arith, apart) in
    let weightless = none_weighs_none mark n s others none in
    let weighed : weight mark n s train ≡ mark train.axles = rw once (one-mul (mark train.axles)) in
    (once, omega (arith, removed (weight mark n s) trains i d h, weightless, weighed))
