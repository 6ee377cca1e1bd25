-- The text of a site.
use Rattle.std.specs.Prelude.{ℕ, ◌+◌, List, [], ◌∷◌, ◌++◌, length, codes, decimal}
use Rattle.questions.specs.Lines.{line}
use Rattle.terrain.specs.declared.trailer.EditionName.{EditionName}
use Rattle.terrain.specs.Trailer.{edition_number}
use Rattle.site.specs.declared.node.Node.{Node}
use Rattle.site.specs.declared.node.Node.TheVariants.{Unused, Basin, Outlet, Merge}

-- The line on the file: its edition, the bytes of its note, and how many records it has.
abbrev pub first_line : ℕ → ℕ → ℕ → List ℕ
first_line edition note count =
    line (codes "ok edition " ∷ decimal edition ∷ codes " note " ∷ decimal note ∷ codes " records " ∷ decimal count ∷ [])

-- The line on a record: its index, its kind, its own volume, and a merge's landings.
abbrev pub node_line : ℕ → Node → List ℕ
node_line i Unused = line (decimal i ∷ codes " unused" ∷ [])
node_line i (Basin own water) = line (decimal i ∷ codes " basin " ∷ decimal own ∷ [])
node_line i (Outlet water) = line (decimal i ∷ codes " outlet" ∷ [])
node_line i (Merge own water cut left right) =
    line (decimal i ∷ codes " merge " ∷ decimal own ∷ codes " landings " ∷ decimal left ∷ codes " " ∷ decimal right ∷ [])

-- A line for each record, from an index on.
abbrev pub node_lines : ℕ → List Node → List ℕ
node_lines i [] = []
node_lines i (n ∷ ns) = node_line i n ++ node_lines (i + 1) ns

-- The line on the whole site.
abbrev pub last_line : ℕ → ℕ → List ℕ
last_line volume height = line (codes "volume " ∷ decimal volume ∷ codes " height " ∷ decimal height ∷ [])

-- All lines of a site.
abbrev pub site_text : EditionName → ℕ → List Node → ℕ → ℕ → List ℕ
site_text e note nodes volume height =
    first_line (edition_number e) note (length nodes) ++ node_lines 0 nodes ++ last_line volume height
