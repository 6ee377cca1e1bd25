-- Trees and the records that they are written as.
use Rattle.std.proofs.Common.{◌≡◌, ℕ, zero, suc, ◌+◌, ◌-◌, ◌<◌, ◌≤◌, Bool, true, false, ◌||◌, eqb, ltb, List, [], ◌∷◌, ◌++◌, length, get_or, sym, refl, ap, ◌∙◌, ⊎_elim, arith}
use Rattle.std.proofs.lemmas.List.{length-append, get_or_append_left, get_or-append_right, get_or_past}
use Rattle.std.proofs.lemmas.Bool.{cases_lt, eq-eqb, ne_eqb, or_from}
use Rattle.std.proofs.lemmas.Bool.Decides.{nat_tests}
use Rattle.water.specs.Tree.{Tree, basin, outlet, merge, size, first, outlets, is_open, has_leaf}
use Rattle.water.specs.Formed.{Numbered}
use Rattle.site.specs.Records.{records}
use Rattle.site.specs.Loader.{leaf_node, leaf_among}
use Rattle.site.specs.declared.node.Node.{Node}
use Rattle.site.specs.declared.node.Node.TheVariants.{Unused, Basin, Outlet, Merge}

-- A tree is written as many records as it has.
pub length_records : (t : Tree) → length (records t) ≡ size t
length_records (basin n o w) = refl
length_records (outlet n w) = refl
length_records (merge n o w c a b l r) =
    length-append (records l ++ records r) (Merge o w c a b ∷ [])
    ∙ ap (λ (k : ℕ). k + 1) (length-append (records l) (records r) ∙ ap (λ (k : ℕ). k + length (records r)) (length_records l) ∙ ap (λ (k : ℕ). size l + k) (length_records r))

-- The first record of a tree that is numbered from b on is b.
pub first_is : (t : Tree) (b : ℕ) → Numbered b t → first t ≡ b
first_is (basin n o w) b h = h
first_is (outlet n w) b h = h
first_is (merge n o w c x y l r) b h = first_is l b h.0

-- No leaf lies below the first record.
pub none_below : (t : Tree) (b k : ℕ) → Numbered b t → k < b → has_leaf k t ≡ false
none_below (basin n o w) b k h lt = ne_eqb k n (omega arith)
none_below (outlet n w) b k h lt = ne_eqb k n (omega arith)
none_below (merge n o w c x y l r) b k h lt =
    or_from _ _ (none_below l b k h.0 lt) (none_below r c k h.2 (omega (arith, h.1)))

-- A lone leaf is at its own number and nowhere else.
one_leaf : (x : Node) (n b j : ℕ) → leaf_node x ≡ true → n ≡ b → eqb (b + j) n ≡ leaf_node (get_or (x ∷ []) j Unused)
one_leaf x n b zero e h = eq-eqb (b + 0) n (omega arith) ∙ sym e
one_leaf x n b (suc j) e h = ne_eqb (b + suc j) n (omega arith)

-- A merge is no leaf.
no_leaf : (o w c x y k : ℕ) → leaf_node (get_or (Merge o w c x y ∷ []) k Unused) ≡ false
no_leaf o w c x y zero = refl
no_leaf o w c x y (suc k) = refl

past : (xs : List Node) (k : ℕ) → length xs ≤ k → leaf_node (get_or xs k Unused) ≡ false
past xs k h = ap leaf_node (get_or_past xs k Unused h)

-- The leaves of a list with a merge at its end.
with_merge : (xs : List Node) (o w c x y k : ℕ) →
    leaf_node (get_or (xs ++ (Merge o w c x y ∷ [])) k Unused) ≡ leaf_node (get_or xs k Unused)
with_merge xs o w c x y k =
    ⊎_elim
    (λ h. ap leaf_node (get_or_append_left xs (Merge o w c x y ∷ []) Unused k h))
    (λ h. ap leaf_node (get_or-append_right xs (Merge o w c x y ∷ []) (length xs) k Unused refl h) ∙ no_leaf o w c x y (k - length xs) ∙ sym (past xs k h))
    (cases_lt k (length xs))

-- The leaves of two lists: the left one's, and the right one's after them.
of_both : (xs ys : List Node) (b j m : ℕ) (p q : Bool) → length xs ≡ m → p ≡ leaf_node (get_or xs j Unused) →
    (j < m → q ≡ false) → (m ≤ j → q ≡ leaf_node (get_or ys (j - m) Unused)) →
    (p || q) ≡ leaf_node (get_or (xs ++ ys) j Unused)
of_both xs ys b j m p q e hp lo hi =
    ⊎_elim
    (λ h. let s : get_or (xs ++ ys) j Unused ≡ get_or xs j Unused = get_or_append_left xs ys Unused j (omega arith) in
    let f : q ≡ false = lo h in let t = ap leaf_node s in grind (arith, nat_tests))
    (λ h. let s : get_or (xs ++ ys) j Unused ≡ get_or ys (j - m) Unused = get_or-append_right xs ys m j Unused e h in
    let f : q ≡ leaf_node (get_or ys (j - m) Unused) = hi h in
    let g : leaf_node (get_or xs j Unused) ≡ false = past xs j (omega arith) in let t = ap leaf_node s in grind (arith, nat_tests))
    (cases_lt j m)

-- A leaf, counted from the first record, is a leaf among the records.
pub leaf_is : (t : Tree) (b j : ℕ) → Numbered b t → has_leaf (b + j) t ≡ leaf_node (get_or (records t) j Unused)
leaf_is (basin n o w) b j h = one_leaf (Basin o w) n b j refl h
leaf_is (outlet n w) b j h = one_leaf (Outlet w) n b j refl h
leaf_is (merge n o w c x y l r) b j h =
    of_both (records l) (records r) b j (size l) _ _ (length_records l) (leaf_is l b j h.0)
    (λ lt. none_below r c (b + j) h.2 (omega (arith, h.1)))
    (λ ge. ap (λ (k : ℕ). has_leaf k r) (omega (arith, h.1)) ∙ leaf_is r c (j - size l) h.2)
    ∙ sym (with_merge (records l ++ records r) o w c x y j)

-- Where a table holds a tree, its leaves are found among the tree's numbers.
pub among : (nodes pre post : List Node) (t : Tree) (k b to : ℕ) → nodes ≡ (pre ++ records t) ++ post → length pre ≡ b →
    Numbered b t → to ≡ b + size t → to ≤ 1023 → leaf_among nodes k b to ≡ has_leaf k t
among nodes pre post t k b to e p h d few =
    ⊎_elim
    (λ lt. let f : has_leaf k t ≡ false = none_below t b k h lt in grind (arith, nat_tests))
    (λ ge.
    let f : has_leaf k t ≡ leaf_node (get_or (records t) (k - b) Unused) =
    ap (λ (i : ℕ). has_leaf i t) (omega arith) ∙ leaf_is t b (k - b) h in
    let len : length (pre ++ records t) ≡ to = length-append pre (records t) ∙ omega (arith, length_records t) in
    ⊎_elim
    (λ lt.
    let g : get_or nodes k Unused ≡ get_or (records t) (k - b) Unused =
    ap (λ (ns : List Node). get_or ns k Unused) e ∙ get_or_append_left (pre ++ records t) post Unused k (omega arith)
    ∙ get_or-append_right pre (records t) b k Unused p ge in
    let m = ap leaf_node g in grind (arith, nat_tests))
    (λ out. let z : leaf_node (get_or (records t) (k - b) Unused) ≡ false = past (records t) (k - b) (omega (arith, length_records t)) in grind (arith, nat_tests))
    (cases_lt k to))
    (cases_lt k b)

-- A record is open when it has an outlet.
pub open_is : (t : Tree) → is_open t ≡ ltb 0 (outlets t)
open_is (basin n o w) = refl
open_is (outlet n w) = refl
open_is (merge n o w c x y l r) = let p = open_is l in let q = open_is r in grind (arith, nat_tests)

pub outlets_few : (t : Tree) → outlets t ≤ size t
outlets_few (basin n o w) = omega arith
outlets_few (outlet n w) = omega arith
outlets_few (merge n o w c x y l r) = let p = outlets_few l in let q = outlets_few r in omega arith

pub size_pos : (t : Tree) → 0 < size t
size_pos (basin n o w) = omega arith
size_pos (outlet n w) = omega arith
size_pos (merge n o w c x y l r) = omega arith
