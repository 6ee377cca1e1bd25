-- Sums and heights of the records of a tree.
use Rattle.std.proofs.Common.{◌≡◌, ℕ, ◌+◌, ◌*◌, ◌^◌, ◌<◌, ◌≤◌, min, max, List, [], ◌∷◌, ◌++◌, sum_by, refl, arith}
use Rattle.std.proofs.lemmas.List.Sums.{sum_by-append}
use Rattle.water.specs.Tree.{Tree, basin, outlet, merge, size, volume, height}
use Rattle.water.specs.Formed.{Shaped}
use Rattle.water.specs.Water.{held, outflow}
use Rattle.site.specs.Filling.{drained}
use Rattle.site.specs.Measures.{own_in, own_sum, drained_sum, heights_after, heights}
use Rattle.site.specs.Records.{records}
use Rattle.site.specs.declared.node.Node.{Node}
use Rattle.site.specs.declared.node.Node.TheVariants.{Merge}

-- The sum over the records of a merge: those of both sides, and its own.
merge_sum : (f : Node → ℕ) (x : Node) (l r : Tree) →
    sum_by f ((records l ++ records r) ++ (x ∷ [])) ≡ sum_by f (records l) + sum_by f (records r) + f x
merge_sum f x l r =
    let s = sum_by-append f (records l ++ records r) (x ∷ []) in
    let u = sum_by-append f (records l) (records r) in
    omega arith

-- The own volumes of the records make the total volume of the tree.
pub volume_is : (t : Tree) → own_sum (records t) ≡ volume t
volume_is (basin n o w) = omega arith
volume_is (outlet n w) = refl
volume_is (merge n o w c a b l r) = omega (arith, volume_is l, volume_is r, merge_sum own_in (Merge o w c a b) l r)

-- What the outlets have taken makes the outflow of the tree.
pub outflow_is_lem : (t : Tree) → drained_sum (records t) ≡ outflow t
outflow_is_lem (basin n o w) = omega arith
outflow_is_lem (outlet n w) = omega arith
outflow_is_lem (merge n o w c a b l r) = omega (arith, outflow_is_lem l, outflow_is_lem r, merge_sum drained (Merge o w c a b) l r)

-- A tree that is shaped as a site's has at most 2^40 litres of volume a record.
pub volume_few : (t : Tree) → Shaped t → volume t ≤ size t * 2 ^ 40
volume_few (basin n o w) h = omega arith
volume_few (outlet n w) h = omega arith
volume_few (merge n o w c a b l r) h = omega (arith, volume_few l h.0, volume_few r h.1, h.2)

pub outflow_few : (t : Tree) → outflow t ≤ held t
outflow_few (basin n o w) = omega arith
outflow_few (outlet n w) = omega arith
outflow_few (merge n o w c a b l r) = omega (arith, outflow_few l, outflow_few r)

height_few : (t : Tree) → height t < size t
height_few (basin n o w) = omega arith
height_few (outlet n w) = omega arith
height_few (merge n o w c a b l r) = let p = height_few l in let q = height_few r in omega arith

heights_append : (xs ys : List Node) (s : List ℕ) → heights (xs ++ ys) s ≡ heights ys (heights xs s)
heights_append [] ys s = refl
heights_append (x ∷ xs) ys s = heights_append xs ys (heights_after x s)

-- The records of a tree leave its height.
pub heights_of : (t : Tree) (s : List ℕ) → size t ≤ 1023 → heights (records t) s ≡ height t ∷ s
heights_of (basin n o w) s few = refl
heights_of (outlet n w) s few = refl
heights_of (merge n o w c a b l r) s few =
    let p : heights (records l) s ≡ height l ∷ s = heights_of l s (omega arith) in
    let q : heights (records r) (height l ∷ s) ≡ height r ∷ height l ∷ s = heights_of r (height l ∷ s) (omega arith) in
    let u : heights (records l ++ records r) s ≡ height r ∷ height l ∷ s = cc (heights_append (records l) (records r) s) in
    let m : min (max (height l) (height r) + 1) 65535 ≡ max (height l) (height r) + 1 = omega (arith, height_few l, height_few r) in
    cc (heights_append (records l ++ records r) (Merge o w c a b ∷ []) s)
