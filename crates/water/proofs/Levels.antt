-- The topmost pool over a leaf, and the level.
use Rattle.std.proofs.Common.{◌≡◌, ℕ, ◌+◌, ◌<◌, ◌≤◌, true, false, cond, ◌&&◌, eqb, ltb, sym, refl, ap, ◌∙◌, inl, inr, ⊎_elim, arith}
use Rattle.std.proofs.lemmas.Bool.{or_left, or_right, or_cases, and_left, and_right, cond-true, cond-false, cases_Bool, lt-ltb, le-ltb, both_ways, false≢true}
use Rattle.water.specs.Tree.{Tree, basin, outlet, merge, size, has_leaf, full}
use Rattle.water.specs.Formed.{Numbered}
use Rattle.water.specs.Water.{held}
use Rattle.water.specs.Parts.{Part}
use Rattle.water.specs.Level.{has_basin, has_outlet, non_empty, level, Pool}
use Rattle.water.proofs.Numbers.{last_number, leaf_number}
use Rattle.water.proofs.Depressions.{leaf_of_part}

part_size : (t s : Tree) → Part t s → size s ≤ size t
part_size (basin n o w) s p = let e = ap size p in omega arith
part_size (outlet n w) s p = let e = ap size p in omega arith
part_size (merge n o w c x y l r) s p =
    let hl = part_size l s in
    let hr = part_size r s in
    ⊎_elim (λ (i : s ≡ merge n o w c x y l r). let e : size s ≡ size l + size r + 1 = ap size i in omega arith)
    (λ j. ⊎_elim (λ i. let e = hl i in omega arith) (λ i. let e = hr i in omega arith) j) p

-- Two trees that are parts of each other are one.
part_both : (t s : Tree) → Part t s → Part s t → s ≡ t
part_both (basin n o w) s p q = p
part_both (outlet n w) s p q = p
part_both (merge n o w c x y l r) s p q =
    let k = part_size s (merge n o w c x y l r) q in
    let hl = part_size l s in
    let hr = part_size r s in
    ⊎_elim (λ (i : s ≡ merge n o w c x y l r). i)
    (λ j. ⊎_elim (λ i. let e = hl i in absurd (omega arith)) (λ i. let e = hr i in absurd (omega arith)) j) p

one_pool : (a : ℕ) (t s p : Tree) → Pool a t s → Pool a t p → p ≡ s
one_pool a t s p h k = part_both s p (h.topmost p k.part k.above k.filled) (k.topmost s h.part h.above h.filled)

basin_leaf : (a : ℕ) (t : Tree) → has_basin a t ≡ true → has_leaf a t ≡ true
basin_leaf a (basin n o w) h = h
basin_leaf a (outlet n w) h = absurd (false≢true h)
basin_leaf a (merge n o w c x y l r) h =
    let hl = basin_leaf a l in
    let hr = basin_leaf a r in
    ⊎_elim (λ i. or_left (has_leaf a l) (has_leaf a r) (hl i)) (λ i. or_right (has_leaf a l) (has_leaf a r) (hr i)) (or_cases (has_basin a l) (has_basin a r) h)

outlet_leaf : (a : ℕ) (t : Tree) → has_outlet a t ≡ true → has_leaf a t ≡ true
outlet_leaf a (basin n o w) h = absurd (false≢true h)
outlet_leaf a (outlet n w) h = h
outlet_leaf a (merge n o w c x y l r) h =
    let hl = outlet_leaf a l in
    let hr = outlet_leaf a r in
    ⊎_elim (λ i. or_left (has_leaf a l) (has_leaf a r) (hl i)) (λ i. or_right (has_leaf a l) (has_leaf a r) (hr i)) (or_cases (has_outlet a l) (has_outlet a r) h)

-- Where a leaf of a numbered merge lies.
left_leaf : (a b n o w c x y : ℕ) (l r : Tree) → Numbered b (merge n o w c x y l r) → has_leaf a l ≡ true → (a < c) × (has_leaf a r ≡ true → ⊥)
left_leaf a b n o w c x y l r h e =
    let d = leaf_number a b l h.0 e in
    let k = (last_number b l h.0).0 in
    let h1 = h.1 in
    (omega arith, λ f. let g = leaf_number a c r h.2 f in omega arith)

right_leaf : (a b n o w c x y : ℕ) (l r : Tree) → Numbered b (merge n o w c x y l r) → has_leaf a r ≡ true → (c ≤ a) × (has_leaf a l ≡ true → ⊥)
right_leaf a b n o w c x y l r h e = ((leaf_number a c r h.2 e).0, λ f. (left_leaf a b n o w c x y l r h f).1 e)

-- A pool over a leaf with its level.
abbrev Level : ℕ → Tree → Type 0
Level a t = (s : Tree) × Pool a t s × (level a t ≡ held s)

top_pool : (a n o w c x y : ℕ) (l r : Tree) → has_leaf a (merge n o w c x y l r) ≡ true → (full l && full r) ≡ true → Level a (merge n o w c x y l r)
top_pool a n o w c x y l r e f = (
  merge n o w c x y l r,
  record { part = inl refl; above = e; filled = f; topmost = λ p d g k. d },
  cond-true (full l && full r) (held l + held r + w) (cond (ltb a c) (level a l) (level a r)) f,
)

left_pool : (a n o w c x y : ℕ) (l r : Tree) → (full l && full r) ≡ false → a < c → (has_leaf a r ≡ true → ⊥) → Level a l → Level a (merge n o w c x y l r)
left_pool a n o w c x y l r f h none q = (
  q.0,
  record {
    part = inr (inl q.1.part);
    above = q.1.above;
    filled = q.1.filled;
    topmost = λ p d g k. ⊎_elim
        (λ (i : p ≡ merge n o w c x y l r). absurd (both_ways (full l && full r) f (ap non_empty (sym i) ∙ k)))
        (λ j. ⊎_elim (λ i. q.1.topmost p i g k) (λ i. absurd (none (leaf_of_part a r p i g))) j) d;
  },
  cond-false (full l && full r) (held l + held r + w) (cond (ltb a c) (level a l) (level a r)) f
      ∙ cond-true (ltb a c) (level a l) (level a r) (lt-ltb a c h) ∙ q.2,
)

right_pool : (a n o w c x y : ℕ) (l r : Tree) → (full l && full r) ≡ false → c ≤ a → (has_leaf a l ≡ true → ⊥) → Level a r → Level a (merge n o w c x y l r)
right_pool a n o w c x y l r f h none q = (
  q.0,
  record {
    part = inr (inr q.1.part);
    above = q.1.above;
    filled = q.1.filled;
    topmost = λ p d g k. ⊎_elim
        (λ (i : p ≡ merge n o w c x y l r). absurd (both_ways (full l && full r) f (ap non_empty (sym i) ∙ k)))
        (λ j. ⊎_elim (λ i. absurd (none (leaf_of_part a l p i g))) (λ i. q.1.topmost p i g k) j) d;
  },
  cond-false (full l && full r) (held l + held r + w) (cond (ltb a c) (level a l) (level a r)) f
      ∙ cond-false (ltb a c) (level a l) (level a r) (le-ltb a c h) ∙ q.2,
)

pool : (a b : ℕ) (t : Tree) → Numbered b t → has_basin a t ≡ true → Level a t
pool a b (basin n o w) h e =
    (basin n o w, record { part = refl; above = e; filled = refl; topmost = λ p d g k. d }, refl)
pool a b (outlet n w) h e = absurd (false≢true e)
pool a b (merge n o w c x y l r) h e =
    let hl = pool a b l h.0 in
    let hr = pool a c r h.2 in
    ⊎_elim
    (λ (f : (full l && full r) ≡ true). top_pool a n o w c x y l r (basin_leaf a (merge n o w c x y l r) e) f)
    (λ (f : (full l && full r) ≡ false). ⊎_elim
    (λ i. let d = left_leaf a b n o w c x y l r h (basin_leaf a l i) in left_pool a n o w c x y l r f d.0 d.1 (hl i))
    (λ i. let d = right_leaf a b n o w c x y l r h (basin_leaf a r i) in right_pool a n o w c x y l r f d.0 d.1 (hr i))
    (or_cases (has_basin a l) (has_basin a r) e))
    (cases_Bool (full l && full r))

pub level_is_lem : (a b : ℕ) (t : Tree) → Numbered b t → has_basin a t ≡ true
    → (s : Tree) × Pool a t s × (level a t ≡ held s) × ((p : Tree) → Pool a t p → p ≡ s)
level_is_lem a b t h e = let q = pool a b t h e in (q.0, q.1, q.2, λ p k. one_pool a t q.0 p q.1 k)

-- A tree with an outlet is never full.
outlet_lacks : (a : ℕ) (t : Tree) → has_outlet a t ≡ true → full t ≡ false
outlet_lacks a (basin n o w) e = absurd (false≢true e)
outlet_lacks a (outlet n w) e = refl
outlet_lacks a (merge n o w c x y l r) e =
    let hl = outlet_lacks a l in
    let hr = outlet_lacks a r in
    ⊎_elim (λ i. and_left (full l) (full r && eqb w o) (hl i))
    (λ i. and_right (full l) (full r && eqb w o) (and_left (full r) (eqb w o) (hr i))) (or_cases (has_outlet a l) (has_outlet a r) e)

-- No record above an outlet counts as non-empty.
Dry : ℕ → Tree → Type 0
Dry a t = (level a t ≡ 0) × ((p : Tree) → Part t p → has_leaf a p ≡ true → non_empty p ≡ true → ⊥)

dry : (a b : ℕ) (t : Tree) → Numbered b t → has_outlet a t ≡ true → Dry a t
unfolding Dry
dry a b (basin n o w) h e = absurd (false≢true e)
dry a b (outlet n w) h e = (refl, λ p d g k. false≢true (ap non_empty (sym d) ∙ k))
dry a b (merge n o w c x y l r) h e =
    let hl = dry a b l h.0 in
    let hr = dry a c r h.2 in
    let nl = outlet_lacks a l in
    let nr = outlet_lacks a r in
    ⊎_elim
    (λ i.
    let d = left_leaf a b n o w c x y l r h (outlet_leaf a l i) in
    let f : (full l && full r) ≡ false = and_left (full l) (full r) (nl i) in (
      cond-false (full l && full r) (held l + held r + w) (cond (ltb a c) (level a l) (level a r)) f
          ∙ cond-true (ltb a c) (level a l) (level a r) (lt-ltb a c d.0) ∙ (hl i).0,
      λ p q g k. ⊎_elim
          (λ (j : p ≡ merge n o w c x y l r). both_ways (full l && full r) f (ap non_empty (sym j) ∙ k))
          (λ j. ⊎_elim (λ m. (hl i).1 p m g k) (λ m. d.1 (leaf_of_part a r p m g)) j) q,
    ))
    (λ i.
    let d = right_leaf a b n o w c x y l r h (outlet_leaf a r i) in
    let f : (full l && full r) ≡ false = and_right (full l) (full r) (nr i) in (
      cond-false (full l && full r) (held l + held r + w) (cond (ltb a c) (level a l) (level a r)) f
          ∙ cond-false (ltb a c) (level a l) (level a r) (le-ltb a c d.0) ∙ (hr i).0,
      λ p q g k. ⊎_elim
          (λ (j : p ≡ merge n o w c x y l r). both_ways (full l && full r) f (ap non_empty (sym j) ∙ k))
          (λ j. ⊎_elim (λ m. d.1 (leaf_of_part a l p m g)) (λ m. (hr i).1 p m g k) j) q,
    ))
    (or_cases (has_outlet a l) (has_outlet a r) e)

pub outlet_level : (a b : ℕ) (t : Tree) → Numbered b t → has_outlet a t ≡ true → (level a t ≡ 0) × ((p : Tree) → Pool a t p → ⊥)
unfolding Dry
outlet_level a b t h e = let q = dry a b t h e in (q.0, λ p k. q.1 p k.part k.above k.filled)
