-- Numbers in row order.
use Rattle.std.specs.Prelude.{ℕ, ◌+◌, ◌*◌, if◌then◌else◌, List, length, nat_lt, slice_index}
use Rattle.raster.specs.Grid.{Grid, grid, no_number}

-- The number at a place, if the numbers go as far.
abbrev pub number_at : List ℕ → (place : ℕ) → ℕ
number_at numbers place = if nat_lt place (length numbers) then slice_index numbers place else no_number

-- Row after row, each of so many columns.
abbrev pub in_row_order : (rows cols : ℕ) → List ℕ → Grid
in_row_order rows cols numbers = grid rows cols (λ row col. number_at numbers (row * cols + col))
