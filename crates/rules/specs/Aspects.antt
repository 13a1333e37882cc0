-- Aspects, and what the lamps show for r clear sections ahead that measure m metres.
use Rattle.std.specs.Prelude.{ℕ, ◌≤◌, cond, List, codes, ◌==◌, nat_lt}
use Rattle.rules.specs.declared.aspect.Aspect.{Aspect}
use Rattle.rules.specs.declared.aspect.Aspect.TheVariants.{Stop, Restricted, Caution, Reduced, Clear}
use Rattle.rules.specs.declared.aspect.LampSet.{LampSet}
use Rattle.rules.specs.declared.aspect.LampSet.TheVariants.{Two, Three, Four, Five}

abbrev pub aspect_number : Aspect → ℕ
aspect_number Stop = 0
aspect_number Restricted = 1
aspect_number Caution = 2
aspect_number Reduced = 3
aspect_number Clear = 4

abbrev pub aspect_word : Aspect → List ℕ
aspect_word Stop = codes "stop"
aspect_word Restricted = codes "restricted"
aspect_word Caution = codes "caution"
aspect_word Reduced = codes "reduced"
aspect_word Clear = codes "clear"

-- A lamp set shows stop at 0, then one aspect for each count, and clear from its last count up.
abbrev pub lamp_set_shows : LampSet → ℕ → Aspect
lamp_set_shows Two r = cond (r == 0) Stop Clear
lamp_set_shows Three r = cond (r == 0) Stop (cond (r == 1) Caution Clear)
lamp_set_shows Four r = cond (r == 0) Stop (cond (r == 1) Caution (cond (r == 2) Reduced Clear))
lamp_set_shows Five r =
    cond (r == 0) Stop (cond (r == 1) Restricted (cond (r == 2) Caution (cond (r == 3) Reduced Clear)))

-- The cab signal goes by metres, as soon as a section is clear at all.
abbrev pub cab_shows : ℕ → ℕ → Aspect
cab_shows r m =
    cond (r == 0) Stop
    (cond (nat_lt m 102) Restricted (cond (nat_lt m 212) Caution (cond (nat_lt m 452) Reduced Clear)))

-- A longer clear way ahead never shows a lower aspect.
abbrev pub NeverLower : (ℕ → ℕ → Aspect) → Type 0
NeverLower shows = (r more m further : ℕ) → r ≤ more → m ≤ further
    → aspect_number (shows r m) ≤ aspect_number (shows more further)
