-- The merge tree of a site, with the water that stands in it.
use Rattle.std.specs.Prelude.{ℕ, ◌+◌, max, Bool, true, false, ◌&&◌, ◌||◌, ◌==◌}

-- A record with all that is below it: its number, own volume and water in litres.
-- A merge also has the first record number of its right side (cut), and a landing in each side.
pub data Tree : Type 0 where
  basin : (number own water : ℕ) → Tree
  outlet : (number water : ℕ) → Tree
  merge : (number own water cut left_landing right_landing : ℕ) (left right : Tree) → Tree

-- How many records a tree has.
abbrev pub size : Tree → ℕ
size (basin n o w) = 1
size (outlet n w) = 1
size (merge n o w c a b l r) = size l + size r + 1

-- The number of the first record of a tree, in postorder.
abbrev pub first : Tree → ℕ
first (basin n o w) = n
first (outlet n w) = n
first (merge n o w c a b l r) = first l

-- How many outlets a tree has.
abbrev pub outlets : Tree → ℕ
outlets (basin n o w) = 0
outlets (outlet n w) = 1
outlets (merge n o w c a b l r) = outlets l + outlets r

-- A record is open when an outlet is in its subtree, else closed.
abbrev pub is_open : Tree → Bool
is_open (basin n o w) = false
is_open (outlet n w) = true
is_open (merge n o w c a b l r) = is_open l || is_open r

-- Basins and outlets are the leaves: is number k one of this tree's?
abbrev pub has_leaf : ℕ → Tree → Bool
has_leaf k (basin n o w) = k == n
has_leaf k (outlet n w) = k == n
has_leaf k (merge n o w c a b l r) = has_leaf k l || has_leaf k r

-- A basin is full when its water equals its own volume; a merge when both sides are full and its water
-- equals its own volume. An outlet never is.
abbrev pub full : Tree → Bool
full (basin n o w) = w == o
full (outlet n w) = false
full (merge n o w c a b l r) = full l && (full r && w == o)

-- The total volume: the sum of the own volumes.
abbrev pub volume : Tree → ℕ
volume (basin n o w) = o
volume (outlet n w) = 0
volume (merge n o w c a b l r) = volume l + volume r + o

-- The most merges above any leaf.
abbrev pub height : Tree → ℕ
height (basin n o w) = 0
height (outlet n w) = 0
height (merge n o w c a b l r) = max (height l) (height r) + 1

-- The same tree without water.
abbrev pub dried : Tree → Tree
dried (basin n o w) = basin n o 0
dried (outlet n w) = outlet n 0
dried (merge n o w c a b l r) = merge n o 0 c a b (dried l) (dried r)
