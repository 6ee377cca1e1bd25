-- The level of the water over a leaf.
use Rattle.std.specs.Prelude.{◌≡◌, ℕ, ◌+◌, Bool, true, false, cond, ◌&&◌, ◌||◌, ◌==◌, nat_lt}
use Rattle.water.specs.Tree.{Tree, basin, outlet, merge, full, has_leaf}
use Rattle.water.specs.Formed.{Numbered}
use Rattle.water.specs.Water.{held}
use Rattle.water.specs.Parts.{Part}

-- Is number k a basin of this tree?
abbrev pub has_basin : ℕ → Tree → Bool
has_basin k (basin n o w) = k == n
has_basin k (outlet n w) = false
has_basin k (merge n o w c x y l r) = has_basin k l || has_basin k r

-- Is number k an outlet of this tree?
abbrev pub has_outlet : ℕ → Tree → Bool
has_outlet k (basin n o w) = false
has_outlet k (outlet n w) = k == n
has_outlet k (merge n o w c x y l r) = has_outlet k l || has_outlet k r

-- A basin counts as non-empty; a merge does when both sides are full.
abbrev pub non_empty : Tree → Bool
non_empty (basin n o w) = true
non_empty (outlet n w) = false
non_empty (merge n o w c x y l r) = full l && full r

-- The level over leaf a: a merge with both sides full is one pool, else go down the side that has the leaf.
abbrev pub level : ℕ → Tree → ℕ
level a (basin n o w) = w
level a (outlet n w) = 0
level a (merge n o w c x y l r) =
    cond (full l && full r) (held l + held r + w) (cond (nat_lt a c) (level a l) (level a r))

-- The pool over leaf a of t is s: the topmost non-empty record above the leaf, or the leaf itself.
pub record Pool (a : ℕ) (t s : Tree) : Type 0 where
  pub part : Part t s
  pub above : has_leaf a s ≡ true
  pub filled : non_empty s ≡ true
  pub topmost : (p : Tree) → Part t p → has_leaf a p ≡ true → non_empty p ≡ true → Part s p

-- Over a basin there is one pool, and the level is all the water in it.
abbrev pub LevelLaw : Type 0
LevelLaw = (a b : ℕ) (t : Tree) → Numbered b t → has_basin a t ≡ true →
    (s : Tree) × Pool a t s × (level a t ≡ held s) × ((p : Tree) → Pool a t p → p ≡ s)

-- Over an outlet there is no pool, and the level is 0.
abbrev pub OutletLevelLaw : Type 0
OutletLevelLaw = (a b : ℕ) (t : Tree) → Numbered b t → has_outlet a t ≡ true →
    (level a t ≡ 0) × ((p : Tree) → Pool a t p → ⊥)
