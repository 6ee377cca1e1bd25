-- The text map of a grid.
use Rattle.std.specs.Prelude.{ℕ, zero, suc, ◌+◌, if◌then◌else◌, List, [], ◌++◌, codes, decimal, ◌==◌, nat_lt}
use Rattle.raster.specs.Grid.{Grid, cell_of, no_number}

-- A number in decimal, or a hyphen where there is none.
abbrev pub number_text : ℕ → List ℕ
number_text n = if n == no_number then codes "-" else decimal n

-- What stands after a cell: a space, or after the last of so many the end of the line.
abbrev pub after_cell : (cols col : ℕ) → List ℕ
after_cell cols col = if nat_lt (col + 1) cols then codes " " else codes "\n"

-- The first so many texts, one after another.
abbrev pub joined : (ℕ → List ℕ) → ℕ → List ℕ
joined text zero = []
joined text (suc n) = joined text n ++ text n

-- A cell and what stands after it.
abbrev pub cell_text : Grid → (row col : ℕ) → List ℕ
cell_text g row col = number_text (cell_of g row col) ++ after_cell g.cols col

-- A row: its cells.
abbrev pub row_text : Grid → (row : ℕ) → List ℕ
row_text g row = joined (cell_text g row) g.cols

-- The map: its rows.
abbrev pub map_text : Grid → List ℕ
map_text g = joined (row_text g) g.rows
