-- What is seen of a subtree in its place.
use Rattle.std.proofs.Common.{◌≡◌, ℕ, ◌+◌, ◌-◌, ◌^◌, ◌<◌, false, eqb, ltb, List, get_or, sym, ap, ◌∙◌, ap₂, arith}
use mathlib.Core.Logic.{∥∥₁_elim, ∥∥₁_map}
use native.Mathlib.Bridge.{le_prop}
use Rattle.water.specs.Tree.{Tree, basin, outlet, merge}
use Rattle.water.specs.Water.{held}
use Rattle.site.specs.Subtree.{Rooted, SurveyedAt}
use Rattle.site.specs.Surveys.{joined, survey_of}
use Rattle.site.specs.declared.node.Node.{Node}
use Rattle.site.specs.declared.node.Node.TheVariants.{Unused, Basin, Outlet, Merge}
use Rattle.site.specs.declared.node.Survey.{Survey}
use Rattle.site.proofs.Places.{top_node, at_top_lem}
use Rattle.site.proofs.Sides.{merge_past, sides}

-- What is seen of a tree is seen at its top.
pub seen_at : (nodes : List Node) (root leaf : ℕ) (x : Node) (seen : Survey) → get_or nodes root Unused ≡ x →
    ((t : Tree) → top_node t ≡ x → seen ≡ survey_of leaf t) → SurveyedAt nodes root leaf seen
seen_at nodes root leaf x seen is f before t after s = f t (sym (at_top_lem nodes root before t after s) ∙ is)

pub unused_seen : (leaf : ℕ) (seen : Survey) (t : Tree) → top_node t ≡ Unused → seen ≡ survey_of leaf t
unused_seen leaf seen (basin n p q) e = cc
unused_seen leaf seen (outlet n q) e = cc
unused_seen leaf seen (merge n p q i j k l r) e = cc

pub basin_seen : (o w leaf : ℕ) (t : Tree) → top_node t ≡ Basin o w → record { full = eqb w o; held = w; level = w } ≡ survey_of leaf t
basin_seen o w leaf (basin n p q) e = cc
basin_seen o w leaf (outlet n q) e = cc
basin_seen o w leaf (merge n p q i j k l r) e = cc

pub outlet_seen : (w leaf : ℕ) (t : Tree) → top_node t ≡ Outlet w → record { full = false; held = w; level = 0 } ≡ survey_of leaf t
outlet_seen w leaf (basin n p q) e = cc
outlet_seen w leaf (outlet n q) e = cc
outlet_seen w leaf (merge n p q i j k l r) e = cc

-- The table has a merge at `root`.
module _ (nodes : List Node) (root : ℕ) {o w c x y : ℕ} (is : get_or nodes root Unused ≡ Merge o w c x y) where
  -- Its sides can be counted as it can.
  pub left_rooted : ∥ Rooted nodes root 0 ∥₁ → (c - 1 < root) × ∥ Rooted nodes (c - 1) 0 ∥₁
  left_rooted h = (
    omega (arith, (merge_past nodes root is 0 h).0, (merge_past nodes root is 0 h).1),
    ∥∥₁_map h (λ k. let d = sides nodes root is k.0 k.1 k.2 k.3 in
        (k.0, d.left, _, d.in_left, omega (arith, k.4, ap held d.whole))),
  )

  pub right_rooted : ∥ Rooted nodes root 0 ∥₁ → (root - 1 < root) × ∥ Rooted nodes (root - 1) 0 ∥₁
  right_rooted h = (
    omega (arith, (merge_past nodes root is 0 h).0, (merge_past nodes root is 0 h).1),
    ∥∥₁_map h (λ k. let d = sides nodes root is k.0 k.1 k.2 k.3 in
        (_, d.right, _, d.in_right, omega (arith, k.4, ap held d.whole))),
  )

  module _ (leaf : ℕ) {left right : Survey} (p : SurveyedAt nodes (c - 1) leaf left) (q : SurveyedAt nodes (root - 1) leaf right) where
    -- All the water in the merge can be counted.
    pub joined_fits : ∥ Rooted nodes root 0 ∥₁ → left.held + right.held + w < 2 ^ 64
    joined_fits h =
        ∥∥₁_elim h le_prop (λ k. let d = sides nodes root is k.0 k.1 k.2 k.3 in
        omega (arith, k.4, ap held d.whole, ap (λ (v : Survey). v.held) (p _ d.left _ d.in_left), ap (λ (v : Survey). v.held) (q _ d.right _ d.in_right)))

    -- What is seen of the two sides is what there is to see of the merge.
    pub merge_seen : SurveyedAt nodes root leaf (joined left right o w (ltb leaf c))
    merge_seen before t after s =
        let d = sides nodes root is before t after s in
        ap₂ (λ (i j : Survey). joined i j o w (ltb leaf c)) (p _ d.left _ d.in_left) (q _ d.right _ d.in_right)
        ∙ ap (survey_of leaf) (sym d.whole)
