-- The tree that a file's records spell in postorder.
use Rattle.std.specs.Prelude.{ℕ, zero, suc, ◌+◌, ◌*◌, List, [], ◌∷◌, length}
use Rattle.terrain.specs.Format.{Format, part}
use Rattle.terrain.specs.Record.{record_of}
use Rattle.terrain.specs.Trailer.{tail_of, name_of, format_of, count_of, note_length}
use Rattle.terrain.specs.declared.record.Record.{Record}
use Rattle.terrain.specs.declared.record.Kind.{Kind}
use Rattle.terrain.specs.declared.record.Kind.TheVariants.{Basin, Merge, Outlet}
use Rattle.water.specs.Tree.{Tree, basin, outlet, merge, first}
use Rattle.water.specs.Waiting.{newest, two_joined}

-- What a merge joins, dry: its right side begins with the first record of the later subtree.
abbrev pub joined : ℕ → Record → List Tree → List Tree
joined i rec w = two_joined (λ l r. merge i rec.own 0 (first r) rec.left rec.right l r) w

-- The subtrees that wait after record i, the newest first, where w waited before it.
abbrev pub grown_by : Kind → ℕ → Record → List Tree → List Tree
grown_by Basin i rec w = basin i rec.own 0 ∷ w
grown_by Outlet i rec w = outlet i 0 ∷ w
grown_by Merge i rec w = joined i rec w

-- The same, by the record's own kind.
abbrev pub grown : ℕ → Record → List Tree → List Tree
grown i rec w = grown_by rec.kind i rec w

-- Where record i starts.
abbrev pub start_of : Format → List ℕ → ℕ → ℕ
start_of e file i = note_length e (length file) (tail_of file) + i * e.record_len

-- What record i says.
abbrev pub record_in : Format → List ℕ → ℕ → Record
record_in e file i = record_of e (part file (start_of e file i) e.record_len)

-- The subtrees that wait after the first i records.
abbrev pub waiting : Format → List ℕ → ℕ → List Tree
waiting e file zero = []
waiting e file (suc i) = grown i (record_in e file i) (waiting e file i)

-- The tree that n records spell.
abbrev pub tree_of : Format → List ℕ → ℕ → Tree
tree_of e file n = newest (waiting e file n)

-- The edition of a file.
abbrev pub format_in : List ℕ → Format
format_in file = format_of (name_of (tail_of file))

-- How many records a file has.
abbrev pub count_in : List ℕ → ℕ
count_in file = count_of (format_in file) (tail_of file)

-- The tree that all the records spell.
abbrev pub tree_in : List ℕ → Tree
tree_in file = tree_of (format_in file) file (count_in file)
