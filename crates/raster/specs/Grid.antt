-- What a raster means.
use Rattle.std.specs.Prelude.{ℕ, ◌-◌, ◌^◌, Bool, if◌then◌else◌, ◌&&◌, nat_lt}

-- So many rows and columns, and one number for each cell.
pub record Grid : Type 0 where
  pub rows : ℕ
  pub cols : ℕ
  pub at : (row col : ℕ) → ℕ

-- A grid from its parts.
abbrev pub grid : ℕ → ℕ → (ℕ → ℕ → ℕ) → Grid
grid rows cols at = record { rows = rows; cols = cols; at = at }

-- What is answered where there is no number.
abbrev pub no_number : ℕ
no_number = 2 ^ 64 - 1

-- Is the cell inside so many rows and columns?
abbrev pub inside : (rows cols row col : ℕ) → Bool
inside rows cols row col = nat_lt row rows && nat_lt col cols

-- What a question about a cell is answered: inside its number, outside that there is none.
abbrev pub cell_of : Grid → (row col : ℕ) → ℕ
cell_of g row col = if inside g.rows g.cols row col then g.at row col else no_number
