-- What holds of the water on every site.
use Rattle.std.specs.Prelude.{◌≡◌, ◌<◌, ◌≤◌, true}
use Rattle.water.specs.Tree.{Tree, basin, outlet, merge, full}
use Rattle.water.specs.Formed.{Formed}

-- No record but an outlet holds more than its own volume, and a merge holds water only if both sides are full.
abbrev pub Within : Tree → Type 0
Within (basin n o w) = w ≤ o
Within (outlet n w) = Unit {0}
Within (merge n o w c x y l r) =
    Within l × Within r × (w ≤ o) × (0 < w → (full l ≡ true) × (full r ≡ true))

-- A site's tree with water as it may stand. Open merges have no volume, so they hold none.
pub record Sound (t : Tree) : Type 0 where
  pub formed : Formed t
  pub within : Within t
