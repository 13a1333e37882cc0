-- What the two words of the track circuits mean.
use Rattle.std.specs.Prelude.{◌≡◌, ℕ, ◌<◌, cond, ◌==◌}
use Rattle.std.specs.Int.{bit_at}
use Rattle.rules.specs.declared.detection.Cell.{Cell}

-- the new word is the old one with the bit at a place put to b
abbrev pub Written : ℕ → ℕ → ℕ → ℕ → Type 0
Written old place b new = (k : ℕ) → k < 24 → bit_at new k ≡ cond (k == place) b (bit_at old k)

-- one section by the two words, held and out of order
abbrev pub circuit : ℕ → ℕ → ℕ → Cell
circuit held failed place = record { held = bit_at held place; failed = (bit_at failed place == 1) }
