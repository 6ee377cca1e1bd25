-- One number everywhere.
use Rattle.std.specs.Prelude.{ℕ}
use Rattle.raster.specs.Grid.{Grid, grid}

-- Every cell has the number.
abbrev pub everywhere : (rows cols number : ℕ) → Grid
everywhere rows cols number = grid rows cols (λ row col. number)
