-- The cells of a track by place: a section's place is its number less one.
use Rattle.std.specs.Prelude.{ℕ, Bool, List, map, slice_index_or, slice_set, ◌&&◌, ◌==◌, [], ◌∷◌}
use Rattle.std.specs.List.{range_with_len}
use Rattle.rules.specs.Detection.{new_cell, with_held, with_failed, cell_of, state_of, state_number}
use Rattle.rules.specs.Detection.{legal_section, no_section, so_already}
use Rattle.rules.specs.Table.{Row}
use Rattle.rules.specs.declared.detection.Cell.{Cell}

-- the 24 cells of a track, from the cell at each place
unfoldable pub cells_by : (ℕ → Cell) → List Cell
cells_by f = map f (range_with_len 0 24)

abbrev pub cell_at : List Cell → ℕ → Cell
cell_at cells place = slice_index_or cells place new_cell

-- the cells with the number held, or the order, of one of them changed
abbrev pub set_held : List Cell → ℕ → ℕ → List Cell
set_held cells place n = slice_set cells place (with_held (cell_at cells place) n)

abbrev pub set_failed : List Cell → ℕ → Bool → List Cell
set_failed cells place failed = slice_set cells place (with_failed (cell_at cells place) failed)

-- whether a track has the section and it reads vacant
abbrev pub reads_vacant : List Cell → ℕ → Bool
reads_vacant cells section = legal_section section && state_number (state_of (cell_of cells section)) == 0

-- the rows that failing or mending a section can meet, from the top
abbrev pub order_rows : List Cell → ℕ → Bool → List Row
order_rows cells section failed = no_section section ∷ so_already (cell_of cells section).failed failed ∷ []
