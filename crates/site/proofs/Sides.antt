-- The two sides of a merge, in their places before it.
use Rattle.std.proofs.Common.{◌≡◌, ℕ, ◌-◌, ◌<◌, ◌≤◌, List, ◌∷◌, ◌++◌, get_or, sym, ap, ◌∙◌, subst, arith}
use mathlib.Core.Logic.{∥∥₁_elim}
use native.Mathlib.Bridge.{le_prop}
use Rattle.water.specs.Tree.{Tree, merge}
use Rattle.site.specs.Records.{records}
use Rattle.site.specs.Subtree.{Rooted, Subtree}
use Rattle.site.specs.declared.node.Node.{Node}
use Rattle.site.specs.declared.node.Node.TheVariants.{Unused, Merge}
use Rattle.site.proofs.Places.{as_merge, at_top_lem, left_in, right_in}
use Rattle.site.proofs.Trees.{size_pos}

-- The tree at `root` is a merge, and these are its sides.
pub record Sides (nodes : List Node) (root o w c x y : ℕ) (before : List Node) (t : Tree) (after : List Node) : Type 0 where
  pub number : ℕ
  pub left : Tree
  pub right : Tree
  pub whole : t ≡ merge number o w c x y left right
  pub in_left : Subtree nodes (c - 1) before left (records right ++ (Merge o w c x y ∷ after))
  pub in_right : Subtree nodes (root - 1) (before ++ records left) right (Merge o w c x y ∷ after)
  pub some : 0 < c
  pub past : c ≤ root

-- The table has a merge at `root`.
module _ (nodes : List Node) (root : ℕ) {o w c x y : ℕ} (is : get_or nodes root Unused ≡ Merge o w c x y) where
  pub sides : (before : List Node) (t : Tree) (after : List Node) → Subtree nodes root before t after → Sides nodes root o w c x y before t after
  sides before t after s =
      let m = as_merge t o w c x y (sym (at_top_lem nodes root before t after s) ∙ is) in
      let z : Subtree nodes root before (merge m.0 o w c x y m.1 m.2) after = subst (λ (k : Tree). Subtree nodes root before k after) m.3 s in
      record {
        number = m.0;
        left = m.1;
        right = m.2;
        whole = m.3;
        in_left = left_in nodes root before m.0 o w c x y m.1 m.2 after z;
        in_right = right_in nodes root before m.0 o w c x y m.1 m.2 after z;
        some = omega (arith, z.numbered.1, size_pos m.1);
        past = omega (arith, z.numbered.3, z.top);
      }

  -- The right side begins behind the left one, and the merge stands behind both.
  pub merge_past : (v : ℕ) → ∥ Rooted nodes root v ∥₁ → (0 < c) × (c ≤ root)
  merge_past v h = (
    ∥∥₁_elim h le_prop (λ k. (sides k.0 k.1 k.2 k.3).some),
    ∥∥₁_elim h le_prop (λ k. (sides k.0 k.1 k.2 k.3).past),
  )

-- The same merge, its cut under another name.
pub cut_as : (nodes : List Node) (root : ℕ) {o w c x y k : ℕ} → get_or nodes root Unused ≡ Merge o w c x y → k ≡ c → get_or nodes root Unused ≡ Merge o w k x y
cut_as nodes root {o = o} {w = w} {x = x} {y = y} is e = is ∙ ap (λ (n : ℕ). Merge o w n x y) (sym e)
