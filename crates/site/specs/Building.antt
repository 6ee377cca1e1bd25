-- What the loader has built between two records: the table and the summaries of the subtrees w that wait.
use Rattle.std.specs.Prelude.{◌≡◌, ℕ, ◌+◌, ◌-◌, List, [], ◌∷◌, ◌++◌, map, replicate}
use Rattle.water.specs.Tree.{Tree, first, size, outlets, dried}
use Rattle.water.specs.Formed.{Numbered, Shaped}
use Rattle.terrain.specs.declared.record.Record.{Record}
use Rattle.site.specs.Postorder.{postorder}
use Rattle.site.specs.Records.{records}
use Rattle.site.specs.declared.node.Node.{Node}
use Rattle.site.specs.declared.node.Node.TheVariants.{Unused}
use Rattle.site.specs.declared.node.Summary.{Summary}
use Rattle.site.specs.declared.table.Table.{Table}

-- The records of the subtrees that wait, the oldest subtree first.
abbrev pub written : List Tree → List Node
written [] = []
written (t ∷ w) = written w ++ records t

-- The same records as the file has them.
abbrev pub listed : List Tree → List Record
listed [] = []
listed (t ∷ w) = listed w ++ postorder t

-- The subtrees that wait are numbered one after the other up to n.
abbrev pub Lined : ℕ → List Tree → Type 0
Lined n [] = n ≡ 0
Lined n (t ∷ w) = Numbered (first t) t × (n ≡ first t + size t) × Lined (first t) w

-- Each of them is shaped as a site's records are, and dry.
abbrev pub Ready : List Tree → Type 0
Ready [] = Unit {0}
Ready (t ∷ w) = Shaped t × (dried t ≡ t) × Ready w

-- What the loader keeps of a subtree.
abbrev pub summary_of : Tree → Summary
summary_of t = record { first = first t; outlets = outlets t }

-- The table holds their records and nothing else, and the summaries are theirs.
pub record Building (table : Table) (summaries : List Summary) (w : List Tree) : Type 0 where
  pub holds : table.nodes ≡ written w ++ replicate (1023 - table.count) Unused
  pub lined : Lined table.count w
  pub ready : Ready w
  pub kept : summaries ≡ map summary_of w
