-- Subtrees in their places among the records of a table.
use Rattle.std.proofs.Common.{◌≡◌, ℕ, ◌+◌, ◌-◌, List, [], ◌∷◌, ◌++◌, length, get_or, set, sym, refl, ap, ◌∙◌, subst, arith}
use Rattle.std.proofs.lemmas.List.{append_assoc, length-append, get_or_at, set_at}
use Rattle.water.specs.Tree.{Tree, basin, outlet, merge, size, dried}
use Rattle.water.specs.Formed.{Numbered}
use Rattle.water.proofs.Numbers.{last_number}
use Rattle.water.proofs.Shape.{size_same, numbered_same}
use Rattle.site.specs.Records.{records}
use Rattle.site.specs.Subtree.{Subtree}
use Rattle.site.specs.declared.node.Node.{Node}
use Rattle.site.specs.declared.node.Node.TheVariants.{Unused, Basin, Outlet, Merge}
use Rattle.site.proofs.Trees.{length_records}

-- The record at a tree's top.
abbrev pub top_node : Tree → Node
top_node (basin n o w) = Basin o w
top_node (outlet n w) = Outlet w
top_node (merge n o w c x y l r) = Merge o w c x y

-- The records below it.
abbrev pub below : Tree → List Node
below (basin n o w) = []
below (outlet n w) = []
below (merge n o w c x y l r) = records l ++ records r

top_last : (t : Tree) → records t ≡ below t ++ (top_node t ∷ [])
top_last (basin n o w) = refl
top_last (outlet n w) = refl
top_last (merge n o w c x y l r) = refl

module _ (nodes : List Node) (root : ℕ) (before : List Node) (t : Tree) (after : List Node) (s : Subtree nodes root before t after) where
  stands_top : nodes ≡ (before ++ below t) ++ (top_node t ∷ after)
  stands_top =
      s.stands ∙ ap (λ (xs : List Node). before ++ (xs ++ after)) (top_last t)
      ∙ ap (λ (xs : List Node). before ++ xs) (append_assoc (below t) (top_node t ∷ []) after)
      ∙ sym (append_assoc before (below t) (top_node t ∷ after))

  -- The top stands behind all that is below it.
  top_place : length (before ++ below t) ≡ root
  top_place =
      let e : size t ≡ length (below t) + 1 = sym (length_records t) ∙ ap length (top_last t) ∙ length-append (below t) (top_node t ∷ []) in
      length-append before (below t) ∙ omega (arith, (last_number (length before) t s.numbered).0, s.top)

  pub at_top_lem : get_or nodes root Unused ≡ top_node t
  at_top_lem = ap (λ (xs : List Node). get_or xs root Unused) stands_top ∙ get_or_at (before ++ below t) (top_node t) after Unused root top_place

  -- Another record at the top leaves all else as it was.
  pub set_top : (x : Node) → set nodes root x ≡ before ++ ((below t ++ (x ∷ [])) ++ after)
  set_top x =
      ap (λ (xs : List Node). set xs root x) stands_top ∙ set_at (before ++ below t) (top_node t) after x root top_place
      ∙ append_assoc before (below t) (x ∷ after)
      ∙ ap (λ (xs : List Node). before ++ xs) (sym (append_assoc (below t) (x ∷ []) after))

-- A merge in the table is a merge of the tree.
pub as_merge : (t : Tree) (o w c x y : ℕ) → top_node t ≡ Merge o w c x y → (n : ℕ) × (l : Tree) × (r : Tree) × (t ≡ merge n o w c x y l r)
as_merge (basin n p q) o w c x y e = cc
as_merge (outlet n q) o w c x y e = cc
as_merge (merge n p q i j k l r) o w c x y e = (n, l, r, cc)

-- The two sides of a merge stand before it, one behind the other.
module _ (nodes : List Node) (root : ℕ) (before : List Node) (n o w c x y : ℕ) (l r : Tree) (after : List Node)
    (s : Subtree nodes root before (merge n o w c x y l r) after) where
  abbrev top : List Node
  top = Merge o w c x y ∷ after

  abbrev num : Numbered (length before) (merge n o w c x y l r)
  num = s.numbered

  both : length (before ++ records l) ≡ c
  both = length-append before (records l) ∙ omega (arith, length_records l, num.1)

  sides_stand : nodes ≡ before ++ (records l ++ (records r ++ top))
  sides_stand =
      s.stands ∙ ap (λ (xs : List Node). before ++ xs)
      (append_assoc (records l ++ records r) (Merge o w c x y ∷ []) after ∙ append_assoc (records l) (records r) top)

  pub left_in : Subtree nodes (c - 1) before l (records r ++ top)
  left_in =
      record { stands = sides_stand; numbered = num.0; top = omega (arith, (last_number (length before) l num.0).0, num.1) }

  pub right_in : Subtree nodes (root - 1) (before ++ records l) r top
  right_in =
      record {
        stands = sides_stand ∙ sym (append_assoc before (records l) (records r ++ top));
        numbered = subst (λ (b : ℕ). Numbered b r) (sym both) num.2;
        top = omega (arith, (last_number c r num.2).0, num.3, s.top);
      }

  -- One side with other water, and all else as it was.
  pub left_changed : (k : Tree) → dried k ≡ dried l → (ns : List Node) → ns ≡ before ++ (records k ++ (records r ++ top)) →
      Subtree ns root before (merge n o w c x y k r) after
  left_changed k d ns e =
      record {
        stands =
            e ∙ ap (λ (xs : List Node). before ++ xs)
            (sym (append_assoc (records k ++ records r) (Merge o w c x y ∷ []) after ∙ append_assoc (records k) (records r) top));
        numbered = (numbered_same (length before) l k (sym d) num.0, num.1 ∙ ap (λ (z : ℕ). length before + z) (sym (size_same k l d)), num.2, num.3);
        top = s.top;
      }

  pub right_changed : (k : Tree) → dried k ≡ dried r → (ns : List Node) → ns ≡ (before ++ records l) ++ (records k ++ top) →
      Subtree ns root before (merge n o w c x y l k) after
  right_changed k d ns e =
      record {
        stands =
            e ∙ append_assoc before (records l) (records k ++ top)
            ∙ ap (λ (xs : List Node). before ++ xs)
            (sym (append_assoc (records l ++ records k) (Merge o w c x y ∷ []) after ∙ append_assoc (records l) (records k) top));
        numbered = (num.0, num.1, numbered_same c r k (sym d) num.2, num.3 ∙ ap (λ (z : ℕ). c + z) (sym (size_same k r d)));
        top = s.top;
      }
