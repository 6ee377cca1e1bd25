-- What the table and the sums of every site hold.
use Rattle.std.specs.Prelude.{◌≡◌, ℕ}
use Rattle.water.specs.Tree.{Tree, size}
use Rattle.water.specs.State.{State, Standing}
use Rattle.site.specs.Records.{table_of}
use Rattle.site.specs.Shows.{shown}
use Rattle.site.specs.declared.table.Table.{Table}

-- The table of a tree.
abbrev pub tabled : Tree → Table
tabled t = record { nodes = table_of t; count = size t }

-- They hold the state s: the used places hold its tree in postorder, and the sums are its sums.
pub record Holds (table : Table) (a p : ℕ) (s : State) : Type 0 where
  pub tree : table ≡ tabled s.tree
  pub accepted : a ≡ s.accepted
  pub pumped : p ≡ s.pumped
  pub stands : Standing s

-- They hold the state that they show.
abbrev pub Held : Table → (accepted pumped : ℕ) → Type 0
Held table accepted pumped = Holds table accepted pumped (shown table accepted pumped)
