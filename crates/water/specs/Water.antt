-- Sums and parts of the water that stands in a tree.
use Rattle.std.specs.Prelude.{ℕ, ◌+◌, ◌-◌, cond, ◌==◌, nat_lt}
use Rattle.water.specs.Tree.{Tree, basin, outlet, merge, is_open}

-- All the water in a tree, with what its outlets have taken.
abbrev pub held : Tree → ℕ
held (basin n o w) = w
held (outlet n w) = w
held (merge n o w c x y l r) = held l + held r + w

-- What the outlets of a tree have taken.
abbrev pub outflow : Tree → ℕ
outflow (basin n o w) = 0
outflow (outlet n w) = w
outflow (merge n o w c x y l r) = outflow l + outflow r

-- The water in the closed records of a tree.
abbrev pub closed_water : Tree → ℕ
closed_water (basin n o w) = w
closed_water (outlet n w) = 0
closed_water (merge n o w c x y l r) =
    closed_water l + closed_water r + cond (is_open (merge n o w c x y l r)) 0 w

-- What the records of a tree still have room for, outlets aside.
abbrev pub room : Tree → ℕ
room (basin n o w) = o - w
room (outlet n w) = 0
room (merge n o w c x y l r) = room l + room r + (o - w)

-- The water of record k, or 0 if the tree has none of that number.
abbrev pub water_at : ℕ → Tree → ℕ
water_at k (basin n o w) = cond (k == n) w 0
water_at k (outlet n w) = cond (k == n) w 0
water_at k (merge n o w c x y l r) = cond (k == n) w (cond (nat_lt k c) (water_at k l) (water_at k r))
