-- What holds of the shape of every site.
use Rattle.std.specs.Prelude.{◌≡◌, ℕ, ◌+◌, ◌^◌, ◌<◌, ◌≤◌, true}
use Rattle.water.specs.Tree.{Tree, basin, outlet, merge, size, outlets, is_open, has_leaf}

-- The records are numbered from b on in postorder, and each cut is its right side's first number.
abbrev pub Numbered : ℕ → Tree → Type 0
Numbered b (basin n o w) = n ≡ b
Numbered b (outlet n w) = n ≡ b
Numbered b (merge n o w c x y l r) = Numbered b l × (c ≡ b + size l) × Numbered c r × (n ≡ c + size r)

-- Own volumes are below 2^40; a merge lands on a leaf of each side; an open merge has no volume.
abbrev pub Shaped : Tree → Type 0
Shaped (basin n o w) = o < 2 ^ 40
Shaped (outlet n w) = Unit {0}
Shaped (merge n o w c x y l r) =
    Shaped l × Shaped r × (o < 2 ^ 40) × (has_leaf x l ≡ true) × (has_leaf y r ≡ true)
    × (is_open (merge n o w c x y l r) ≡ true → o ≡ 0)

-- A site's tree: at most 1,023 records from number 0 on, exactly one outlet, and every record as it should be.
pub record Formed (t : Tree) : Type 0 where
  pub numbered : Numbered 0 t
  pub shaped : Shaped t
  pub outlet : outlets t ≡ 1
  pub few : size t ≤ 1023
