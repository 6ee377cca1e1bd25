-- A grid that is moved over its own rows and columns.
use Rattle.std.specs.Prelude.{ℕ, if◌then◌else◌, ℤ, pos, negsuc, ◌-ℤ◌, Some, None, Option, nat_lt}
use Rattle.raster.specs.Grid.{Grid, grid}

-- The place, if it is one of so many.
abbrev pub among : ℕ → ℤ → Option ℕ
among count (pos n) = if nat_lt n count then Some n else None
among count (negsuc n) = None

-- The place, of so many, that is shown at a place after a shift.
abbrev pub source : (at : ℕ) (by : ℤ) (count : ℕ) → Option ℕ
source at by count = among count (pos at -ℤ by)

-- The number at a row and a column, if there are both, else 0.
abbrev pub number_at : Grid → Option ℕ → Option ℕ → ℕ
number_at g (Some row) (Some col) = g.at row col
number_at g _ _ = 0

-- Cell (row, col) shows (row − dr, col − dc) of the grid below if that is inside, else 0.
abbrev pub shifted_by : (dr dc : ℤ) → Grid → Grid
shifted_by dr dc below =
    grid below.rows below.cols
    (λ row col. number_at below (source row dr below.rows) (source col dc below.cols))
