-- How a table holds a tree.
use Rattle.std.specs.Prelude.{◌-◌, List, [], ◌∷◌, ◌++◌, replicate}
use Rattle.water.specs.Tree.{Tree, basin, outlet, merge, size}
use Rattle.site.specs.declared.node.Node.{Node}
use Rattle.site.specs.declared.node.Node.TheVariants.{Unused, Basin, Outlet, Merge}

-- The records of a tree in postorder: the left side, the right side, the record itself.
abbrev pub records : Tree → List Node
records (basin n o w) = Basin o w ∷ []
records (outlet n w) = Outlet w ∷ []
records (merge n o w c a b l r) = (records l ++ records r) ++ (Merge o w c a b ∷ [])

-- The table of a tree: its records, and every other place unused.
abbrev pub table_of : Tree → List Node
table_of t = records t ++ replicate (1023 - size t) Unused
