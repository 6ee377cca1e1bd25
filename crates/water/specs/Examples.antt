-- The worked examples of water, in one list.
use Rattle.std.specs.Prelude.{◌≡◌, ℕ, List, [], ◌∷◌, ◌++◌}
use Rattle.water.specs.Tree.{Tree, basin, outlet, merge, dried}
use Rattle.water.specs.Water.{held, outflow}
use Rattle.water.specs.Litre.{Rain}
use Rattle.water.specs.Level.{Pool}

-- The site of the examples, dry.
abbrev pub seven : Tree
seven =
    merge 6 0 0 5 3 5 (merge 4 3 0 3 1 3 (merge 2 4 0 1 0 1 (basin 0 10 0) (basin 1 6 0)) (basin 3 5 0)) (outlet 5 0)

-- The water of every record, in the order of their numbers.
abbrev pub waters : Tree → List ℕ
waters (basin n o w) = w ∷ []
waters (outlet n w) = w ∷ []
waters (merge n o w c x y l r) = waters l ++ (waters r ++ (w ∷ []))

-- What is done on a site or asked of it, with what that leaves or answers.
pub data Step : Type 0 where
  -- Rain at a leaf leaves this water in the records.
  rain : (leaf litres : ℕ) (left : List ℕ) → Step
  -- The level over a basin.
  level_is : (leaf litres : ℕ) → Step
  -- What the outlet has taken.
  outflow_is : (litres : ℕ) → Step
  -- The site is dry again.
  dry_again : Step

-- Each step holds of the tree that the steps before it left; the litres of a rain, one after another, have one result.
abbrev pub Shown : Tree → List Step → Type 0
Shown t [] = Unit {0}
Shown t (rain a v ws ∷ ss) =
    (u : Tree) × Rain a v t u × ((z : Tree) → Rain a v t z → z ≡ u) × (waters u ≡ ws) × Shown u ss
Shown t (level_is a v ∷ ss) = ((p : Tree) × Pool a t p × (held p ≡ v)) × Shown t ss
Shown t (outflow_is v ∷ ss) = (outflow t ≡ v) × Shown t ss
Shown t (dry_again ∷ ss) = Shown (dried t) ss

-- Four rains that follow one another. Then, from dry, the first two in the other order: they leave the same water.
abbrev pub worked : List Step
worked =
    rain 0 12 (10 ∷ 2 ∷ 0 ∷ 0 ∷ 0 ∷ 0 ∷ 0 ∷ [])
    ∷ rain 1 7 (10 ∷ 6 ∷ 3 ∷ 0 ∷ 0 ∷ 0 ∷ 0 ∷ [])
    ∷ level_is 0 19
    ∷ rain 0 4 (10 ∷ 6 ∷ 4 ∷ 3 ∷ 0 ∷ 0 ∷ 0 ∷ [])
    ∷ rain 3 9 (10 ∷ 6 ∷ 4 ∷ 5 ∷ 3 ∷ 4 ∷ 0 ∷ [])
    ∷ level_is 3 28
    ∷ outflow_is 4
    ∷ dry_again
    ∷ rain 1 7 (1 ∷ 6 ∷ 0 ∷ 0 ∷ 0 ∷ 0 ∷ 0 ∷ [])
    ∷ rain 0 12 (10 ∷ 6 ∷ 3 ∷ 0 ∷ 0 ∷ 0 ∷ 0 ∷ [])
    ∷ []
