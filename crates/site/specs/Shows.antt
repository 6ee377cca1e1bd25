-- The state that a site's table and sums show.
use Rattle.std.specs.Prelude.{ℕ, ◌+◌, List, [], ◌∷◌}
use Rattle.water.specs.Tree.{Tree, basin, outlet, merge}
use Rattle.water.specs.State.{State}
use Rattle.water.specs.Waiting.{newest, two_joined}
use Rattle.site.specs.declared.node.Node.{Node}
use Rattle.site.specs.declared.node.Node.TheVariants.{Unused, Basin, Outlet, Merge}
use Rattle.site.specs.declared.table.Table.{Table}

-- The subtrees that wait after place i, the newest first, where s waited before it.
abbrev pub read_node : ℕ → Node → List Tree → List Tree
read_node i Unused s = s
read_node i (Basin o w) s = basin i o w ∷ s
read_node i (Outlet w) s = outlet i w ∷ s
read_node i (Merge o w c x y) s = two_joined (merge i o w c x y) s

-- The subtrees that wait after the places from i on.
abbrev pub read_from : ℕ → List Node → List Tree → List Tree
read_from i [] s = s
read_from i (x ∷ xs) s = read_from (i + 1) xs (read_node i x s)

-- The tree that the records of a table spell in postorder.
unfoldable pub tree_on : List Node → Tree
tree_on nodes = newest (read_from 0 nodes [])

-- That tree, and the sums.
abbrev pub shown : Table → (accepted pumped : ℕ) → State
shown table a p = record { tree = tree_on table.nodes; accepted = a; pumped = p }
