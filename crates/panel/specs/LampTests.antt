-- What a lamp test makes of a panel's bytes, and what its end makes of them again.
use Rattle.std.specs.Prelude.{◌≡◌, ℕ, ◌<◌, min, cond, List, ◌++◌, length, take, drop, replicate, nat_lt, slice_index}

abbrev pub panel_bytes : ℕ
panel_bytes = 66

-- how many bytes a test lights: those of a panel, or all of them if there are fewer
abbrev pub lamps : List ℕ → ℕ
lamps bytes = min (length bytes) panel_bytes

-- the first n bytes lit, the rest as they were
abbrev pub lit_first : ℕ → List ℕ → List ℕ
lit_first n bytes = replicate n 1 ++ drop n bytes

-- the first n of one list laid over another
abbrev pub overlaid : ℕ → List ℕ → List ℕ → List ℕ
overlaid n front bytes = take n front ++ drop n bytes

-- a panel while it is tested
abbrev pub under_test : List ℕ → List ℕ
under_test bytes = lit_first (lamps bytes) bytes

-- what is kept of a panel meanwhile: its lamps, filled up with 0
abbrev pub kept_of : List ℕ → List ℕ
kept_of bytes = overlaid (lamps bytes) bytes (replicate panel_bytes 0)

-- a panel after its test: the lamps as they were kept, the rest as it is
abbrev pub restored : List ℕ → List ℕ → List ℕ
restored kept bytes = overlaid (lamps bytes) kept bytes

-- all lamps are lit
abbrev pub AllLit : List ℕ → Type 0
AllLit bytes = under_test bytes ≡ bytes

-- byte by byte: the first 66 show 1, the others what they showed
abbrev pub Lights : List ℕ → List ℕ → Type 0
Lights before after =
    (length after ≡ length before)
    × ((k : ℕ) → k < length before → slice_index after k ≡ cond (nat_lt k 66) 1 (slice_index before k))
