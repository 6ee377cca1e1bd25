-- A table shows the tree that it holds.
use Rattle.std.proofs.Common.{◌≡◌, ℕ, zero, suc, ◌+◌, ◌-◌, List, [], ◌∷◌, ◌++◌, replicate, sym, refl, ap, ◌∙◌, subst, append-nil, arith}
use Rattle.std.proofs.lemmas.List.{append_assoc}
use Rattle.water.specs.Tree.{Tree, basin, outlet, merge, size}
use Rattle.water.specs.Formed.{Numbered}
use Rattle.water.specs.State.{State}
use Rattle.site.specs.Held.{Held, Holds}
use Rattle.site.specs.Records.{records, table_of}
use Rattle.site.specs.Shows.{read_from, shown, tree_on}
use Rattle.water.specs.Waiting.{newest}
use Rattle.site.specs.declared.node.Node.{Node}
use Rattle.site.specs.declared.node.Node.TheVariants.{Unused, Merge}
use Rattle.site.specs.declared.table.Table.{Table}

-- The records of a tree are read as that tree.
reads_back : (t : Tree) (b : ℕ) (rest : List Node) (s : List Tree) → Numbered b t →
    read_from b (records t ++ rest) s ≡ read_from (b + size t) rest (t ∷ s)
reads_back (basin n o w) b rest s h = ap (λ (k : ℕ). read_from (b + 1) rest (basin k o w ∷ s)) (sym h)
reads_back (outlet n w) b rest s h = ap (λ (k : ℕ). read_from (b + 1) rest (outlet k w ∷ s)) (sym h)
reads_back (merge n o w c x y l r) b rest s h =
    let m : Node = Merge o w c x y in
    ap (λ (xs : List Node). read_from b xs s)
    (append_assoc (records l ++ records r) (m ∷ []) rest ∙ append_assoc (records l) (records r) (m ∷ rest))
    ∙ reads_back l b (records r ++ (m ∷ rest)) s h.0
    ∙ ap (λ (k : ℕ). read_from k (records r ++ (m ∷ rest)) (l ∷ s)) (sym h.1)
    ∙ reads_back r c (m ∷ rest) (l ∷ s) h.2
    ∙ ap (λ (k : ℕ). read_from (c + size r + 1) rest (merge k o w c x y l r ∷ s)) (sym h.3)
    ∙ ap (λ (k : ℕ). read_from k rest (merge n o w c x y l r ∷ s)) (omega (arith, h.1))

unused_read : (k i : ℕ) (s : List Tree) → read_from i (replicate k Unused) s ≡ s
unused_read zero i s = refl
unused_read (suc k) i s = unused_read k (i + 1) s

table_read : (t : Tree) → Numbered 0 t → read_from 0 (table_of t) [] ≡ t ∷ []
table_read t h = reads_back t 0 (replicate (1023 - size t) Unused) [] h ∙ unused_read (1023 - size t) (0 + size t) (t ∷ [])

-- Records spell no other tree.
pub one_tree : (t u : Tree) → Numbered 0 t → Numbered 0 u → records t ≡ records u → t ≡ u
one_tree t u ht hu e =
    let read = λ (x : Tree) (h : Numbered 0 x). ap (λ (xs : List Node). read_from 0 xs []) (sym (append-nil (records x))) ∙ reads_back x 0 [] [] h in
    let s : t ∷ [] ≡ u ∷ [] = sym (read t ht) ∙ ap (λ (xs : List Node). read_from 0 xs []) e ∙ read u hu in
    cc

-- The table of a tree spells that tree.
pub tree_on_table : (t : Tree) → Numbered 0 t → tree_on (table_of t) ≡ t
unfolding tree_on
tree_on_table t h = ap newest (table_read t h)

module _ {table : Table} {a p : ℕ} {s : State} where
  -- A table and its sums show the one state that they hold.
  pub one_state : Holds table a p s → shown table a p ≡ s
  one_state h =
      let t : tree_on table.nodes ≡ s.tree =
      ap (λ (x : Table). tree_on x.nodes) h.tree ∙ tree_on_table s.tree h.stands.sound.formed.numbered in
      ap (λ (x : Tree). record { tree = x; accepted = a; pumped = p }) t
      ∙ ap (λ (x : ℕ). record { tree = s.tree; accepted = x; pumped = p }) h.accepted
      ∙ ap (λ (x : ℕ). record { tree = s.tree; accepted = s.accepted; pumped = x }) h.pumped

  pub held : Holds table a p s → Held table a p
  held h = subst (Holds table a p) (sym (one_state h)) h

  pub held_is : Held table a p → shown table a p ≡ s → Holds table a p s
  held_is h e = subst (Holds table a p) e h
