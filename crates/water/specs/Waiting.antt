-- Trees that wait for the merge above them, the newest first, while records are gone through in postorder.
use Rattle.std.specs.Prelude.{List, [], ◌∷◌}
use Rattle.water.specs.Tree.{Tree, outlet}

-- A merge joins the two trees that were finished last; the earlier one is its left side.
abbrev pub two_joined : (Tree → Tree → Tree) → List Tree → List Tree
two_joined f [] = []
two_joined f (r ∷ []) = r ∷ []
two_joined f (r ∷ l ∷ s) = f l r ∷ s

-- The newest tree that waits; a lone outlet where none does.
abbrev pub newest : List Tree → Tree
newest [] = outlet 0 0
newest (t ∷ s) = t
