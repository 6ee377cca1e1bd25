-- Rectangles of one number each.
use Rattle.std.specs.Prelude.{◌≡◌, ℕ, ◌+◌, ◌<◌, Bool, true, false, if◌then◌else◌, ◌&&◌, List, [], ◌∷◌, length, nat_le, nat_lt, slice_index_or}
use Rattle.raster.specs.Grid.{Grid, grid}
use Rattle.raster.specs.declared.zones.Zone.{Zone}

-- Is it one of so many places from the first on?
abbrev pub spans : (first count at : ℕ) → Bool
spans first count at = nat_le first at && nat_lt at (first + count)

-- Does the zone cover the cell?
abbrev pub covers : Zone → (row col : ℕ) → Bool
covers z row col = spans z.top z.height row && spans z.left z.width col

-- The number of the first zone that covers the cell, and 0 where none does.
abbrev pub first_covering : List Zone → (row col : ℕ) → ℕ
first_covering [] row col = 0
first_covering (z ∷ zs) row col = if covers z row col then z.number else first_covering zs row col

-- Each cell has the number of the first zone that covers it.
abbrev pub zoned : (rows cols : ℕ) → List Zone → Grid
zoned rows cols zs = grid rows cols (first_covering zs)

-- The zone at a place of the list.
abbrev pub zone_at : List Zone → ℕ → Zone
zone_at zs k = slice_index_or zs k (record { top = 0; left = 0; height = 0; width = 0; number = 0 })

-- None of the first so many zones covers the cell.
abbrev pub NoneCovers : ℕ → List Zone → (row col : ℕ) → Type 0
NoneCovers count zs row col = (k : ℕ) → k < count → covers (zone_at zs k) row col ≡ false

-- In words: where a zone covers the cell and none before it does, the number is that zone's; where none does, it is 0.
pub record OfTheFirst (zs : List Zone) (row col number : ℕ) : Type 0 where
  pub first : (k : ℕ) → k < length zs → covers (zone_at zs k) row col ≡ true → NoneCovers k zs row col
      → number ≡ (zone_at zs k).number
  pub none : NoneCovers (length zs) zs row col → number ≡ 0
