-- What is worked out in one pass over the records of a tree.
use Rattle.std.specs.Prelude.{ℕ, ◌+◌, min, max, List, [], ◌∷◌, sum_by}
use Rattle.site.specs.Filling.{drained}
use Rattle.site.specs.declared.node.Node.{Node}
use Rattle.site.specs.declared.node.Node.TheVariants.{Unused, Basin, Outlet, Merge}

-- The own volume of a record.
abbrev pub own_in : Node → ℕ
own_in Unused = 0
own_in (Basin o w) = o
own_in (Outlet w) = 0
own_in (Merge o w c a b) = o

-- The sum of the own volumes.
abbrev pub own_sum : List Node → ℕ
own_sum xs = sum_by own_in xs

-- The sum of what the outlets have taken.
abbrev pub drained_sum : List Node → ℕ
drained_sum xs = sum_by drained xs

-- A merge stands on the two newest heights, and is one higher than the greater. No height comes near 65,535.
abbrev pub joined_heights : List ℕ → List ℕ
joined_heights [] = []
joined_heights (r ∷ []) = r ∷ []
joined_heights (r ∷ l ∷ s) = min (max l r + 1) 65535 ∷ s

-- The heights of the subtrees that wait after one record more, the newest first.
abbrev pub heights_after : Node → List ℕ → List ℕ
heights_after Unused s = s
heights_after (Basin o w) s = 0 ∷ s
heights_after (Outlet w) s = 0 ∷ s
heights_after (Merge o w c a b) s = joined_heights s

-- The heights that wait after all the records of a list.
abbrev pub heights : List Node → List ℕ → List ℕ
heights [] s = s
heights (x ∷ xs) s = heights xs (heights_after x s)

-- The newest of the heights, or 0 where none waits.
abbrev pub newest_height : List ℕ → ℕ
newest_height [] = 0
newest_height (h ∷ s) = h
