-- Numbers by weight.
use Rattle.std.specs.Prelude.{ℕ, ◌*◌, ◌/◌, if◌then◌else◌, ◌||◌, ◌==◌, nat_lt}
use Rattle.raster.specs.Grid.{Grid, grid, no_number}

-- v × p / q, rounded down; there is none where v is above 4,294,967,295 or q is 0.
abbrev pub weighed : (p q v : ℕ) → ℕ
weighed p q v = if nat_lt 4294967295 v || q == 0 then no_number else v * p / q

-- Each number of the grid below, by weight.
abbrev pub weighted_by : (p q : ℕ) → Grid → Grid
weighted_by p q below = grid below.rows below.cols (λ row col. weighed p q (below.at row col))
