-- Rains one after another, each a leaf and its litres.
use Rattle.std.specs.Prelude.{◌≡◌, ℕ, ◌+◌, true, cond, List, [], ◌∷◌, ◌==◌}
use Rattle.water.specs.Tree.{Tree, has_leaf}
use Rattle.water.specs.Pour.{poured}

-- The tree after the rains, first to last.
abbrev pub rained : List (ℕ × ℕ) → Tree → Tree
rained [] t = t
rained (p ∷ ps) t = rained ps (poured p.0 p.1 t)

-- The litres that fall at k in all.
abbrev pub sum_on : ℕ → List (ℕ × ℕ) → ℕ
sum_on k [] = 0
sum_on k (p ∷ ps) = cond (p.0 == k) p.1 0 + sum_on k ps

-- Every rain falls at a leaf of the tree.
abbrev pub OnLeaves : Tree → List (ℕ × ℕ) → Type 0
OnLeaves t [] = Unit {0}
OnLeaves t (p ∷ ps) = (has_leaf p.0 t ≡ true) × OnLeaves t ps

-- Two lists of rains with equal sums at every number leave equal trees.
abbrev pub EqualRainLaw : Type 0
EqualRainLaw = (ps qs : List (ℕ × ℕ)) (t : Tree) → ((k : ℕ) → sum_on k ps ≡ sum_on k qs) → rained ps t ≡ rained qs t

-- Two lists of rains at leaves of the tree with equal sums at every leaf leave equal trees.
abbrev pub EqualRainOnLeavesLaw : Type 0
EqualRainOnLeavesLaw = (ps qs : List (ℕ × ℕ)) (t : Tree) → OnLeaves t ps → OnLeaves t qs →
    ((k : ℕ) → has_leaf k t ≡ true → sum_on k ps ≡ sum_on k qs) → rained ps t ≡ rained qs t
