-- Where the numbers of a numbered tree lie, and that each names one record.
use Rattle.std.proofs.Common.{◌≡◌, ℕ, ◌+◌, ◌<◌, ◌≤◌, true, cond, ◌||◌, eqb, ltb, ◌⊎◌, sym, refl, ap, ◌∙◌, subst, inl, inr, ⊎_elim, arith}
use Rattle.std.proofs.lemmas.Bool.{or_cases, or_left, or_right, eqb-true, eq-eqb, ne_eqb, cond-true, cond-false, cases_lt, lt-ltb, le-ltb}
use Rattle.water.specs.Tree.{Tree, basin, outlet, merge, size, first, has_leaf}
use Rattle.water.specs.Formed.{Numbered}
use Rattle.water.specs.Water.{water_at}
use Rattle.water.specs.Parts.{number, Part, Side, Names, has_record, top_water}
use Rattle.water.specs.Litre.{grown}

-- The top record has the last number.
pub last_number : (b : ℕ) (t : Tree) → Numbered b t → (number t + 1 ≡ b + size t) × (b ≤ number t)
last_number b (basin n o w) h = omega arith
last_number b (outlet n w) h = omega arith
last_number b (merge n o w c x y l r) h =
    let h1 = h.1 in
    let h3 = h.3 in
    omega arith

pub first_number : (b : ℕ) (t : Tree) → Numbered b t → first t ≡ b
first_number b (basin n o w) h = h
first_number b (outlet n w) h = h
first_number b (merge n o w c x y l r) h = first_number b l h.0

-- A tree is a part of itself.
pub part_self : (t : Tree) → Part t t
part_self (basin n o w) = refl
part_self (outlet n w) = refl
part_self (merge n o w c x y l r) = inl refl

-- The leaves of a tree have numbers from its first on.
pub leaf_number : (a b : ℕ) (t : Tree) → Numbered b t → has_leaf a t ≡ true → (b ≤ a) × (a ≤ number t)
leaf_number a b (basin n o w) h e = let k = eqb-true a n e in omega arith
leaf_number a b (outlet n w) h e = let k = eqb-true a n e in omega arith
leaf_number a b (merge n o w c x y l r) h e =
    let hl = leaf_number a b l h.0 in
    let hr = leaf_number a c r h.2 in
    let kl = last_number b l h.0 in
    let kr = last_number c r h.2 in
    let h1 = h.1 in
    let h3 = h.3 in
    ⊎_elim (λ i. let p = hl i in omega arith) (λ i. let p = hr i in omega arith) (or_cases (has_leaf a l) (has_leaf a r) e)

pub part_number : (b : ℕ) (t s : Tree) → Numbered b t → Part t s → (b ≤ number s) × (number s ≤ number t)
part_number b (basin n o w) s h p = let e = ap number p in omega arith
part_number b (outlet n w) s h p = let e = ap number p in omega arith
part_number b (merge n o w c x y l r) s h p =
    let kl = last_number b l h.0 in
    let kr = last_number c r h.2 in
    let h1 = h.1 in
    let h3 = h.3 in
    let hl = part_number b l s h.0 in
    let hr = part_number c r s h.2 in
    ⊎_elim (λ (e : s ≡ merge n o w c x y l r). let e1 : number s ≡ n = ap number e in omega arith)
    (λ q. ⊎_elim (λ i. let j = hl i in omega arith) (λ i. let j = hr i in omega arith) q) p

-- A number names one record.
pub one_record : (b : ℕ) (t s z : Tree) → Numbered b t → Part t s → Part t z → number s ≡ number z → s ≡ z
one_record b (basin n o w) s z h p q e = p ∙ sym q
one_record b (outlet n w) s z h p q e = p ∙ sym q
one_record b (merge n o w c x y l r) s z h p q e =
    let kl = last_number b l h.0 in
    let kr = last_number c r h.2 in
    let h1 = h.1 in
    let h3 = h.3 in
    let ls = part_number b l s h.0 in
    let rs = part_number c r s h.2 in
    let lz = part_number b l z h.0 in
    let rz = part_number c r z h.2 in
    let ih = one_record b l s z h.0 in
    let jh = one_record c r s z h.2 in
    ⊎_elim
    (λ (ps : s ≡ merge n o w c x y l r). let es : number s ≡ n = ap number ps in ⊎_elim
    (λ (pz : z ≡ merge n o w c x y l r). ps ∙ sym pz)
    (λ j. ⊎_elim (λ i. let k = lz i in absurd (omega arith)) (λ i. let k = rz i in absurd (omega arith)) j) q)
    (λ j. ⊎_elim
    (λ i. let k = ls i in ⊎_elim
    (λ (pz : z ≡ merge n o w c x y l r). let ez : number z ≡ n = ap number pz in absurd (omega arith))
    (λ j2. ⊎_elim (λ i2. ih i i2 e) (λ i2. let k2 = rz i2 in absurd (omega arith)) j2) q)
    (λ i. let k = rs i in ⊎_elim
    (λ (pz : z ≡ merge n o w c x y l r). let ez : number z ≡ n = ap number pz in absurd (omega arith))
    (λ j2. ⊎_elim (λ i2. let k2 = lz i2 in absurd (omega arith)) (λ i2. jh i i2 e) j2) q) j) p

pub part_numbered : (b : ℕ) (t s : Tree) → Numbered b t → Part t s → (d : ℕ) × Numbered d s
part_numbered b (basin n o w) s h p = (b, subst (λ (i : Tree). Numbered b i) (sym p) h)
part_numbered b (outlet n w) s h p = (b, subst (λ (i : Tree). Numbered b i) (sym p) h)
part_numbered b (merge n o w c x y l r) s h p =
    let hl = part_numbered b l s h.0 in
    let hr = part_numbered c r s h.2 in
    ⊎_elim (λ (e : s ≡ merge n o w c x y l r). (b, subst (λ (i : Tree). Numbered b i) (sym e) h)) (λ q. ⊎_elim hl hr q) p

pub names : (b : ℕ) (t s : Tree) → Numbered b t → Part t s → Names t (number s) s
names b t s h p = record { part = p; called = refl; only = λ z q e. one_record b t z s h q p e }

-- Each number in the range of a numbered tree is a record's.
some_record : (b k : ℕ) (t : Tree) → Numbered b t → b ≤ k → k < b + size t → (s : Tree) × Part t s × (number s ≡ k)
some_record b k (basin n o w) h p q = (basin n o w, refl, omega arith)
some_record b k (outlet n w) h p q = (outlet n w, refl, omega arith)
some_record b k (merge n o w c x y l r) h p q =
    let h1 = h.1 in
    let h3 = h.3 in
    let hl = some_record b k l h.0 p in
    let hr = some_record c k r h.2 in
    ⊎_elim
    (λ (i : k < c). let s = hl (omega arith) in (s.0, inr (inl s.1), s.2))
    (λ (i : c ≤ k). ⊎_elim
    (λ (j : k < n). let s = hr i (omega arith) in (s.0, inr (inr s.1), s.2))
    (λ (j : n ≤ k). (merge n o w c x y l r, inl refl, omega arith))
    (cases_lt k n))
    (cases_lt k c)

pub every_number : (b k : ℕ) (t : Tree) → Numbered b t → b ≤ k → k < b + size t → (s : Tree) × Names t k s
every_number b k t h p q =
    let f = some_record b k t h p q in
    (f.0, subst (λ (i : ℕ). Names t i f.0) f.2 (names b t f.0 h f.1))

found : (k : ℕ) (t : Tree) → has_record k t ≡ true → (s : Tree) × Part t s × (number s ≡ k)
found k (basin n o w) e = (basin n o w, refl, sym (eqb-true k n e))
found k (outlet n w) e = (outlet n w, refl, sym (eqb-true k n e))
found k (merge n o w c x y l r) e =
    let hl = found k l in
    let hr = found k r in
    ⊎_elim (λ i. (merge n o w c x y l r, inl refl, sym (eqb-true k n i)))
    (λ j. ⊎_elim (λ i. let s = hl i in (s.0, inr (inl s.1), s.2)) (λ i. let s = hr i in (s.0, inr (inr s.1), s.2))
    (or_cases (has_record k l) (has_record k r) j))
    (or_cases (eqb k n) (has_record k l || has_record k r) e)

kept : (k : ℕ) (t s : Tree) → Part t s → number s ≡ k → has_record k t ≡ true
kept k (basin n o w) s p e = eq-eqb k n (sym e ∙ ap number p)
kept k (outlet n w) s p e = eq-eqb k n (sym e ∙ ap number p)
kept k (merge n o w c x y l r) s p e =
    let hl = kept k l s in
    let hr = kept k r s in
    ⊎_elim (λ (i : s ≡ merge n o w c x y l r). or_left (eqb k n) (has_record k l || has_record k r) (eq-eqb k n (sym e ∙ ap number i)))
    (λ j. or_right (eqb k n) (has_record k l || has_record k r)
    (⊎_elim (λ i. or_left (has_record k l) (has_record k r) (hl i e)) (λ i. or_right (has_record k l) (has_record k r) (hr i e)) j)) p

pub record_found : (k : ℕ) (t : Tree)
    → (has_record k t ≡ true → (s : Tree) × Part t s × (number s ≡ k)) × ((s : Tree) → Part t s → number s ≡ k → has_record k t ≡ true)
record_found k t = (found k t, kept k t)

-- The water at a record's number is the record's.
pub water_at_lem : (b : ℕ) (t s : Tree) → Numbered b t → Part t s → water_at (number s) t ≡ top_water s
water_at_lem b (basin n o w) s h p =
    cond-true (eqb (number s) n) w 0 (eq-eqb (number s) n (ap number p)) ∙ ap top_water (sym p)
water_at_lem b (outlet n w) s h p =
    cond-true (eqb (number s) n) w 0 (eq-eqb (number s) n (ap number p)) ∙ ap top_water (sym p)
water_at_lem b (merge n o w c x y l r) s h p =
    let kl = last_number b l h.0 in
    let kr = last_number c r h.2 in
    let h1 = h.1 in
    let h3 = h.3 in
    let hl = water_at_lem b l s h.0 in
    let hr = water_at_lem c r s h.2 in
    let nl = part_number b l s h.0 in
    let nr = part_number c r s h.2 in
    let k : ℕ = number s in
    ⊎_elim
    (λ (i : s ≡ merge n o w c x y l r).
    cond-true (eqb k n) w (cond (ltb k c) (water_at k l) (water_at k r)) (eq-eqb k n (ap number i)) ∙ ap top_water (sym i))
    (λ j. ⊎_elim
    (λ i. let d = nl i in
    cond-false (eqb k n) w (cond (ltb k c) (water_at k l) (water_at k r)) (ne_eqb k n (λ f. omega arith))
    ∙ cond-true (ltb k c) (water_at k l) (water_at k r) (lt-ltb k c (omega arith)) ∙ hl i)
    (λ i. let d = nr i in
    cond-false (eqb k n) w (cond (ltb k c) (water_at k l) (water_at k r)) (ne_eqb k n (λ f. omega arith))
    ∙ cond-false (ltb k c) (water_at k l) (water_at k r) (le-ltb k c (omega arith)) ∙ hr i) j) p

-- A side of a merge has a number below the merge's.
side_number : (b n j : ℕ) (p z : Tree) → Numbered b p → Side p n j z → (b ≤ n) × (n < number p)
side_number b n j (basin i o w) z h s = absurd s
side_number b n j (outlet i w) z h s = absurd s
side_number b n j (merge i o w c x y l r) z h s =
    let kl = last_number b l h.0 in
    let kr = last_number c r h.2 in
    let h1 = h.1 in
    let h3 = h.3 in
    ⊎_elim (λ k. let e = k.0 in omega arith) (λ k. let e = k.0 in omega arith) s

within_part : (b n j : ℕ) (t p z : Tree) → Numbered b t → Part t p → Side p n j z → (b ≤ n) × (n < number t)
within_part b n j (basin i o w) p z h q s = absurd (subst (λ (k : Tree). Side k n j z) q s)
within_part b n j (outlet i w) p z h q s = absurd (subst (λ (k : Tree). Side k n j z) q s)
within_part b n j (merge i o w c x y l r) p z h q s =
    let kl = last_number b l h.0 in
    let kr = last_number c r h.2 in
    let h1 = h.1 in
    let h3 = h.3 in
    let hl = within_part b n j l p z h.0 in
    let hr = within_part c n j r p z h.2 in
    ⊎_elim
    (λ (e : p ≡ merge i o w c x y l r). side_number b n j (merge i o w c x y l r) z h (subst (λ (k : Tree). Side k n j z) e s))
    (λ m. ⊎_elim (λ d. let f = hl d s in omega arith) (λ d. let f = hr d s in omega arith) m) q

-- A record has one merge above it.
pub one_parent : (b n j k : ℕ) (t p q z y : Tree) → Numbered b t → Part t p → Side p n j z → Part t q → Side q n k y → p ≡ q
one_parent b n j k (basin i o w) p q z y h hp sp hq sq = hp ∙ sym hq
one_parent b n j k (outlet i w) p q z y h hp sp hq sq = hp ∙ sym hq
one_parent b n j k (merge i o w c x y2 l r) p q z y h hp sp hq sq =
    let top : Tree = merge i o w c x y2 l r in
    let kl = last_number b l h.0 in
    let kr = last_number c r h.2 in
    let h1 = h.1 in
    let h3 = h.3 in
    let pl = λ (d : Part l p). within_part b n j l p z h.0 d sp in
    let pr = λ (d : Part r p). within_part c n j r p z h.2 d sp in
    let ql = λ (d : Part l q). within_part b n k l q y h.0 d sq in
    let qr = λ (d : Part r q). within_part c n k r q y h.2 d sq in
    let ih = λ (d : Part l p) (f : Part l q). one_parent b n j k l p q z y h.0 d sp f sq in
    let jh = λ (d : Part r p) (f : Part r q). one_parent c n j k r p q z y h.2 d sp f sq in
    ⊎_elim
    (λ (e : p ≡ top). ⊎_elim
    (λ (f : q ≡ top). e ∙ sym f)
    (λ m. absurd (⊎_elim (λ d. not_left i o w c x y2 l r n j z b h (subst (λ (g : Tree). Side g n j z) e sp) (ql d))
    (λ d. not_right i o w c x y2 l r n j z b h (subst (λ (g : Tree). Side g n j z) e sp) (qr d)) m)) hq)
    (λ m. ⊎_elim
    (λ d. ⊎_elim
    (λ (f : q ≡ top). absurd (not_left i o w c x y2 l r n k y b h (subst (λ (g : Tree). Side g n k y) f sq) (pl d)))
    (λ m2. ⊎_elim (λ d2. ih d d2) (λ d2. let u = pl d in let v = qr d2 in absurd (omega arith)) m2) hq)
    (λ d. ⊎_elim
    (λ (f : q ≡ top). absurd (not_right i o w c x y2 l r n k y b h (subst (λ (g : Tree). Side g n k y) f sq) (pr d)))
    (λ m2. ⊎_elim (λ d2. let u = pr d in let v = ql d2 in absurd (omega arith)) (λ d2. jh d d2) m2) hq) m) hp
  where
    not_left : (i o w c x y : ℕ) (l r : Tree) (n j : ℕ) (z : Tree) (b : ℕ) → Numbered b (merge i o w c x y l r) → Side (merge i o w c x y l r) n j z
        → (b ≤ n) × (n < number l) → ⊥
    not_left i o w c x y l r n j z b h s m =
        let kl = last_number b l h.0 in
        let kr = last_number c r h.2 in
        let h1 = h.1 in
        ⊎_elim (λ k. let e = k.0 in omega arith) (λ k. let e = k.0 in omega arith) s

    not_right : (i o w c x y : ℕ) (l r : Tree) (n j : ℕ) (z : Tree) (b : ℕ) → Numbered b (merge i o w c x y l r) → Side (merge i o w c x y l r) n j z
        → (c ≤ n) × (n < number r) → ⊥
    not_right i o w c x y l r n j z b h s m =
        let kl = last_number b l h.0 in
        let kr = last_number c r h.2 in
        let h1 = h.1 in
        ⊎_elim (λ k. let e = k.0 in omega arith) (λ k. let e = k.0 in omega arith) s

-- A record has one other side beside it, and one landing there.
pub one_side : (b n j k : ℕ) (p z y : Tree) → Numbered b p → Side p n j z → Side p n k y → (j ≡ k) × (z ≡ y)
one_side b n j k (basin i o w) z y h s q = absurd s
one_side b n j k (outlet i w) z y h s q = absurd s
one_side b n j k (merge i o w c x y2 l r) z y h s q =
    let kl = last_number b l h.0 in
    let kr = last_number c r h.2 in
    let h1 = h.1 in
    ⊎_elim
    (λ m. ⊎_elim (λ d. (m.1 ∙ sym d.1, m.2 ∙ sym d.2))
    (λ d. let e = m.0 in let f = d.0 in absurd (omega arith)) q)
    (λ m. ⊎_elim (λ d. let e = m.0 in let f = d.0 in absurd (omega arith))
    (λ d. (m.1 ∙ sym d.1, m.2 ∙ sym d.2)) q) s

-- A litre elsewhere leaves a tree as it is.
pub grown_elsewhere : (b k : ℕ) (t : Tree) → Numbered b t → (k < b) ⊎ (number t < k) → grown k t ≡ t
grown_elsewhere b k (basin n o w) h e = ap (λ (i : ℕ). basin n o i)
    (cond-false (eqb k n) (w + 1) w (ne_eqb k n (λ f. ⊎_elim (λ (d : k < b). omega arith) (λ (d : n < k). omega arith) e)))
grown_elsewhere b k (outlet n w) h e = ap (λ (i : ℕ). outlet n i)
    (cond-false (eqb k n) (w + 1) w (ne_eqb k n (λ f. ⊎_elim (λ (d : k < b). omega arith) (λ (d : n < k). omega arith) e)))
grown_elsewhere b k (merge n o w c x y l r) h e =
    let kl = last_number b l h.0 in
    let kr = last_number c r h.2 in
    let h1 = h.1 in
    let h3 = h.3 in
    let el : (k < b) ⊎ (number l < k) = ⊎_elim (λ (d : k < b). inl d) (λ (d : n < k). inr (omega arith)) e in
    let er : (k < c) ⊎ (number r < k) = ⊎_elim (λ (d : k < b). inl (omega arith)) (λ (d : n < k). inr (omega arith)) e in
    let gl = grown_elsewhere b k l h.0 el in
    let gr = grown_elsewhere c k r h.2 er in
    let gw = cond-false (eqb k n) (w + 1) w (ne_eqb k n (λ f. ⊎_elim (λ (d : k < b). omega arith) (λ (d : n < k). omega arith) e)) in
    cc
