-- Rains are poured number by number, each its sum: so only the sums count.
use Rattle.std.proofs.Common.{◌≡◌, ℕ, zero, suc, ◌+◌, ◌<◌, ◌≤◌, true, false, cond, eqb, List, [], ◌∷◌, sym, refl, ap, ◌∙◌, ap₂, ⊎_elim, arith}
use Rattle.std.proofs.lemmas.Bool.{cases_eq, cases_Bool, cond-true, cond-false, eq-eqb, ne_eqb, both_ways}
use Rattle.water.specs.Tree.{Tree, has_leaf}
use Rattle.water.specs.Pour.{poured}
use Rattle.water.specs.Rains.{rained, sum_on, OnLeaves}
use Rattle.water.proofs.Order.{obeys}

-- Pouring f k litres at each number k below n.
pours : (ℕ → ℕ) → ℕ → Tree → Tree
pours f zero t = t
pours f (suc n) t = poured n (f n) (pours f n t)

pours_after : (f : ℕ → ℕ) (n a v : ℕ) (t : Tree) → poured a v (pours f n t) ≡ pours f n (poured a v t)
unfolding pours
pours_after f zero a v t = refl
pours_after f (suc n) a v t =
    (obeys (pours f n t)).swap n a (f n) v ∙ ap (λ (s : Tree). poured n (f n) s) (pours_after f n a v t)

pours_same : (f g : ℕ → ℕ) (n : ℕ) (t : Tree) → ((k : ℕ) → k < n → f k ≡ g k) → pours f n t ≡ pours g n t
unfolding pours
pours_same f g zero t h = refl
pours_same f g (suc n) t h = ap₂ (λ (i : ℕ) (s : Tree). poured n i s) (h n (omega arith)) (pours_same f g n t (λ k l. h k (omega arith)))

pours_none : (n : ℕ) (t : Tree) → pours (λ k. 0) n t ≡ t
unfolding pours
pours_none zero t = refl
pours_none (suc n) t = (obeys (pours (λ k. 0) n t)).none n ∙ pours_none n t

-- The sum with v more at a.
with_more : (a v : ℕ) (f : ℕ → ℕ) → ℕ → ℕ
with_more a v f k = cond (eqb a k) v 0 + f k

more_there : (a v k : ℕ) (f : ℕ → ℕ) → a ≡ k → with_more a v f k ≡ v + f k
unfolding with_more
more_there a v k f e = ap (λ (i : ℕ). i + f k) (cond-true (eqb a k) v 0 (eq-eqb a k e))

more_else : (a v k : ℕ) (f : ℕ → ℕ) → (a ≡ k → ⊥) → with_more a v f k ≡ f k
unfolding with_more
more_else a v k f e = let p : cond (eqb a k) v 0 ≡ 0 = cond-false (eqb a k) v 0 (ne_eqb a k e) in omega arith

pours_more : (a v : ℕ) (f : ℕ → ℕ) (n : ℕ) (t : Tree) → a < n → pours (with_more a v f) n t ≡ pours f n (poured a v t)
unfolding pours
pours_more a v f zero t h = absurd (omega arith)
pours_more a v f (suc n) t h =
    let ih = pours_more a v f n t in
    ⊎_elim
    (λ (e : a ≡ n).
    let s : Tree = pours f n t in
    let p : with_more a v f n ≡ v + f n = more_there a v n f e in
    let q : pours (with_more a v f) n t ≡ s = pours_same (with_more a v f) f n t (λ k l. more_else a v k f (λ i. omega arith)) in
    ap₂ (λ (i : ℕ) (z : Tree). poured n i z) p q
    ∙ sym ((obeys s).more n v (f n))
    ∙ ap (λ (i : ℕ). poured n (f n) (poured i v s)) (sym e)
    ∙ ap (λ (z : Tree). poured n (f n) z) (pours_after f n a v t))
    (λ (e : a ≡ n → ⊥).
    ap₂ (λ (i : ℕ) (z : Tree). poured n i z) (more_else a v n f e) (ih (lt_rest a n h e)))
    (cases_eq a n)
  where
    lt_rest : (a n : ℕ) → a < suc n → (a ≡ n → ⊥) → a < n
    lt_rest a n h e = omega arith

-- Every rain's number is below n.
abbrev Below : ℕ → List (ℕ × ℕ) → Type 0
Below n [] = Unit {0}
Below n (p ∷ ps) = (p.0 < n) × Below n ps

bound : List (ℕ × ℕ) → ℕ
bound [] = 0
bound (p ∷ ps) = bound ps + (p.0 + 1)

below_more : (n m : ℕ) (ps : List (ℕ × ℕ)) → n ≤ m → Below n ps → Below m ps
below_more n m [] h b = tt
below_more n m (p ∷ ps) h b = (let k = b.0 in omega arith, below_more n m ps h b.1)

bound_below : (ps : List (ℕ × ℕ)) → Below (bound ps) ps
unfolding bound
bound_below [] = tt
bound_below (p ∷ ps) = (omega arith, below_more (bound ps) (bound ps + (p.0 + 1)) ps (omega arith) (bound_below ps))

rained_pours : (n : ℕ) (ps : List (ℕ × ℕ)) (t : Tree) → Below n ps → rained ps t ≡ pours (λ k. sum_on k ps) n t
unfolding with_more
rained_pours n [] t h = sym (pours_none n t)
rained_pours n (p ∷ ps) t h =
    rained_pours n ps (poured p.0 p.1 t) h.1
    ∙ sym (pours_more p.0 p.1 (λ k. sum_on k ps) n t h.0)

pub equal_rain : (ps qs : List (ℕ × ℕ)) (t : Tree) → ((k : ℕ) → sum_on k ps ≡ sum_on k qs) → rained ps t ≡ rained qs t
equal_rain ps qs t h =
    let n : ℕ = bound ps + bound qs in
    rained_pours n ps t (below_more (bound ps) n ps (omega arith) (bound_below ps))
    ∙ pours_same (λ k. sum_on k ps) (λ k. sum_on k qs) n t (λ k l. h k)
    ∙ sym (rained_pours n qs t (below_more (bound qs) n qs (omega arith) (bound_below qs)))

-- At a number that is no leaf no rain falls.
none_there : (k : ℕ) (t : Tree) (ps : List (ℕ × ℕ)) → OnLeaves t ps → has_leaf k t ≡ false → sum_on k ps ≡ 0
none_there k t [] h e = refl
none_there k t (p ∷ ps) h e =
    let ih = none_there k t ps h.1 e in
    let j : eqb p.0 k ≡ false = ne_eqb p.0 k (λ i. both_ways (has_leaf k t) e (ap (λ (z : ℕ). has_leaf z t) (sym i) ∙ h.0)) in
    let q : cond (eqb p.0 k) p.1 0 ≡ 0 = cond-false (eqb p.0 k) p.1 0 j in
    omega arith

pub equal_rain_on_leaves : (ps qs : List (ℕ × ℕ)) (t : Tree) → OnLeaves t ps → OnLeaves t qs
    → ((k : ℕ) → has_leaf k t ≡ true → sum_on k ps ≡ sum_on k qs) → rained ps t ≡ rained qs t
equal_rain_on_leaves ps qs t hp hq h = equal_rain ps qs t (λ k. ⊎_elim
    (λ (e : has_leaf k t ≡ true). h k e)
    (λ (e : has_leaf k t ≡ false). none_there k t ps hp e ∙ sym (none_there k t qs hq e))
    (cases_Bool (has_leaf k t)))
