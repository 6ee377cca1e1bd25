-- What the calls on a site answer, and what they leave.
use Rattle.std.specs.Prelude.{◌≡◌, ℕ, ◌+◌, ◌^◌, true, List, [], ◌∷◌, nat_le}
use Rattle.questions.specs.Ask.{Question, ask}
use Rattle.water.specs.Tree.{Tree, dried, has_leaf}
use Rattle.water.specs.Pour.{poured}
use Rattle.water.specs.Litre.{Rain}
use Rattle.water.specs.Level.{Pool, has_basin, has_outlet}
use Rattle.water.specs.State.{State, Standing}
use Rattle.water.specs.Water.{held}
use Rattle.water.specs.declared.units.Leaf.{Leaf}
use Rattle.water.specs.declared.units.Litres.{Litres}
use Rattle.water.specs.declared.refusal.Refusal.{Refusal}
use Rattle.water.specs.declared.refusal.Refusal.TheVariants.{NoLeaf, RainLimit}

-- Is it a leaf?
abbrev pub leaf_question : Leaf → State → Question Refusal
leaf_question a s = ask (has_leaf a.0 s.tree) (NoLeaf a)

-- Is accepted rain, with v litres more, still at most 2^60?
abbrev pub limit_question : Litres → ℕ → Question Refusal
limit_question v accepted = ask (nat_le (accepted + v.0) (2 ^ 60)) (RainLimit v)

-- Rain asks: is it a leaf, and is accepted rain still within its limit?
abbrev pub rain_questions : Leaf → Litres → State → List (Question Refusal)
rain_questions a v s = leaf_question a s ∷ limit_question v s.accepted ∷ []

-- The level asks: is it a leaf?
abbrev pub level_questions : Leaf → State → List (Question Refusal)
level_questions a s = leaf_question a s ∷ []

-- The state after v litres fell at leaf a.
abbrev pub rained_on : Leaf → Litres → State → State
rained_on a v s =
    record { tree = poured a.0 v.0 s.tree; accepted = s.accepted + v.0; pumped = s.pumped }

-- Accepted rain of v litres at leaf a turns s into u: v litres fall there, one after another, and that has no other
-- result; nothing but water changes, and the rain is counted.
pub record Rained (a v : ℕ) (s u : State) : Type 0 where
  pub falls : Rain a v s.tree u.tree
  pub only : (z : Tree) → Rain a v s.tree z → z ≡ u.tree
  pub shape : dried u.tree ≡ dried s.tree
  pub accepted : u.accepted ≡ s.accepted + v
  pub pumped : u.pumped ≡ s.pumped
  pub stands : Standing u

-- The level over leaf a of t is v: all the water in the one pool over a basin, and 0 over an outlet.
pub record LevelIs (a : ℕ) (t : Tree) (v : ℕ) : Type 0 where
  pub basin : has_basin a t ≡ true → (p : Tree) × Pool a t p × (v ≡ held p) × ((q : Tree) → Pool a t q → q ≡ p)
  pub outlet : has_outlet a t ≡ true → v ≡ 0
