-- The cells of a track, read and changed at one place.
use Rattle.std.specs.Prelude.{◌≡◌, ℕ, ◌<◌, length, ◌≢◌, slice_set, Ok, Err, Result}
use Rattle.std.proofs.Common.{sym, ap, ◌∙◌, inl, inr, arith}
use Rattle.std.proofs.lemmas.List.FromFn.{length-map-range_with_len, get_or-map-range_with_len}
use Rattle.std.proofs.lemmas.List.{ext_get_or, length-set, get_or-set_same, get_or-set_other}
use Rattle.std.proofs.lemmas.Bool.{cases_eq}
use Rattle.rules.specs.Detection.{new_cell}
use Rattle.rules.specs.declared.detection.Cell.{Cell}
use Rattle.rules.specs.declared.refusal.Refusal.{Refusal}
use Rattle.track.specs.declared.place.Place.{Place}
use Rattle.track.specs.Cells.{cells_by, cell_at}

-- where a section stands, as a number
abbrev pub index_of : Result Place Refusal → Result ℕ Refusal
index_of (Ok place) = Ok place.index
index_of (Err refusal) = Err refusal

pub cells_length : (f : ℕ → Cell) → length (cells_by f) ≡ 24
unfolding cells_by
cells_length f = length-map-range_with_len f 0 24

pub read_at : (f : ℕ → Cell) (p : ℕ) → p < 24 → cell_at (cells_by f) p ≡ f p
unfolding cells_by
read_at f p h = get_or-map-range_with_len f 0 24 p p new_cell h (omega arith)

-- tables that differ at one place alone, where the cell of the second comes from that of the first
pub changed_at : (f g : ℕ → Cell) (p : ℕ) (change : Cell → Cell) → p < 24 → g p ≡ change (f p)
    → ((k : ℕ) → k < 24 → (k ≢ p) → g k ≡ f k)
    → cells_by g ≡ slice_set (cells_by f) p (change (cell_at (cells_by f) p))
changed_at f g p change h there elsewhere =
    ext_get_or new_cell (cells_by g) (slice_set (cells_by f) p (change (cell_at (cells_by f) p)))
    (cells_length g ∙ sym (length-set (cells_by f) p (change (cell_at (cells_by f) p)) ∙ cells_length f))
    (λ k l.
    let below : k < 24 = omega (arith, cells_length g) in
    elim (cases_eq k p) [
      | inl e ↦
          let within : p < length (cells_by f) = omega (arith, cells_length f) in
          rw e
          (read_at g p h ∙ there ∙ ap change (sym (read_at f p h))
          ∙ sym (get_or-set_same (cells_by f) p (change (cell_at (cells_by f) p)) new_cell within))
      | inr n ↦
          read_at g k below ∙ elsewhere k below n
          ∙ sym (get_or-set_other (cells_by f) p k (change (cell_at (cells_by f) p)) new_cell n ∙ read_at f k below)
    ])
