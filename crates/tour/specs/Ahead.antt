-- What a signal at the beginning of the stretch has ahead of it, and what each lamp set shows for it.
use Rattle.std.specs.Prelude.{ℕ, zero, suc, ◌+◌, min, cond, List, [], ◌∷◌, take, sum}
use Rattle.rules.specs.Aspects.{lamp_set_shows, cab_shows}
use Rattle.track.specs.Cells.{reads_vacant}
use Rattle.rules.specs.declared.detection.Cell.{Cell}
use Rattle.rules.specs.declared.aspect.Aspect.{Aspect}
use Rattle.rules.specs.declared.aspect.LampSet.TheVariants.{Two, Three, Four, Five}

-- how many of n sections, from the first on, read vacant one after the other
abbrev pub vacant_from : List Cell → ℕ → ℕ → ℕ
vacant_from cells first zero = 0
vacant_from cells first (suc n) = cond (reads_vacant cells first) (1 + vacant_from cells (first + 1) n) 0

abbrev pub lengths : List ℕ
lengths = 100 ∷ 150 ∷ 250 ∷ []

-- the metres of so many blocks from block 1 on, of the three that there are
abbrev pub metres_of : ℕ → ℕ
metres_of clear = sum (take (min clear 3) lengths)

-- the lamp sets of two to five, then the cab signal
abbrev pub heads_show : ℕ → ℕ → List Aspect
heads_show clear metres =
    lamp_set_shows Two clear ∷ lamp_set_shows Three clear ∷ lamp_set_shows Four clear ∷ lamp_set_shows Five clear
    ∷ cab_shows clear metres ∷ []
