-- The litre's walk ends in one record, and that is where pouring one litre leaves it.
use Rattle.std.proofs.Common.{◌≡◌, ℕ, zero, suc, ◌+◌, ◌-◌, ◌<◌, ◌≤◌, true, false, cond, ◌&&◌, eqb, ◌⊎◌, sym, refl, ap, ◌∙◌, subst, inl, inr, ⊎_elim, arith}
use Rattle.std.proofs.lemmas.Bool.{or_cases, eqb-true, eqb-false, eq-eqb, ne_eqb, cond-true, cond-false, cases_Bool, cases_eq, both_ways, and_right}
use Rattle.water.specs.Tree.{Tree, basin, outlet, merge, first, has_leaf, full}
use Rattle.water.specs.Formed.{Numbered, Shaped}
use Rattle.water.specs.Sound.{Within, Sound}
use Rattle.water.specs.Pour.{poured, excess}
use Rattle.water.specs.Parts.{number, Part, Side}
use Rattle.water.specs.Litre.{Rests, rest, cross, climb, grown, Litre, Rain}
use Rattle.water.proofs.Steps.{filled, poured_basin, poured_outlet, excess_basin, excess_outlet}
use Rattle.water.proofs.Order.{obeys, Leads, leftward, rightward, to_left, to_right, quiet}
use Rattle.water.proofs.Shape.{shape_kept, leaf_same}
use Rattle.water.proofs.Keep.{full_passes, full_from, sound_kept}
use Rattle.water.proofs.Room.{open_excess, formed_open}
use Rattle.water.proofs.Numbers.{last_number, first_number, part_self, leaf_number, one_record, part_numbered, one_parent, one_side, grown_elsewhere}

-- Where a litre that stands at n goes next is settled: each step of the walk, read backwards.
module _ (b : ℕ) (t : Tree) (h : Numbered b t) where
  clash : (n : ℕ) (s z : Tree) → Part t s → n ≡ number s → Part t z → n ≡ number z → full s ≡ true → full z ≡ false → ⊥
  clash n s z ps es pz ez fs fz =
      let e : s ≡ z = one_record b t s z h ps pz (sym es ∙ ez) in
      both_ways (full s) (ap full e ∙ fz) fs

  after_rest : (n k : ℕ) (s : Tree) → Part t s → n ≡ number s → full s ≡ false → Rests t k n → k ≡ n
  after_rest n k s ps es fs (rest m s' ps' es' fs' e) = e
  after_rest n k s ps es fs (cross m j s' p z ps' es' fs' pp sp fz w) = absurd (clash n s' s ps' es' ps es fs' fs)
  after_rest n k s ps es fs (climb m j s' p z ps' es' fs' pp sp fz w) = absurd (clash n s' s ps' es' ps es fs' fs)

  beside : (n j k : ℕ) (p q z y : Tree) → Part t p → Side p n j z → Part t q → Side q n k y → (p ≡ q) × (j ≡ k) × (z ≡ y)
  beside n j k p q z y pp sp pq sq =
      let e : p ≡ q = one_parent b n j k t p q z y h pp sp pq sq in
      let d = part_numbered b t p h pp in
      let f = one_side d.0 n j k p z y d.1 sp (subst (λ (i : Tree). Side i n k y) (sym e) sq) in
      (e, f.0, f.1)

  after_cross : (n k j : ℕ) (s p z : Tree) → Part t s → n ≡ number s → full s ≡ true → Part t p → Side p n j z → full z ≡ false
      → Rests t k n → Rests t k j
  after_cross n k j s p z ps es fs pp sp fz (rest m s' ps' es' fs' e) = absurd (clash n s s' ps es ps' es' fs fs')
  after_cross n k j s p z ps es fs pp sp fz (cross m j' s' p' z' ps' es' fs' pp' sp' fz' w) =
      subst (λ (i : ℕ). Rests t k i) (sym (beside n j j' p p' z z' pp sp pp' sp').1) w
  after_cross n k j s p z ps es fs pp sp fz (climb m j' s' p' z' ps' es' fs' pp' sp' fz' w) =
      absurd (both_ways (full z) fz (ap full (beside n j j' p p' z z' pp sp pp' sp').2 ∙ fz'))

  after_climb : (n k j : ℕ) (s p z : Tree) → Part t s → n ≡ number s → full s ≡ true → Part t p → Side p n j z → full z ≡ true
      → Rests t k n → Rests t k (number p)
  after_climb n k j s p z ps es fs pp sp fz (rest m s' ps' es' fs' e) = absurd (clash n s s' ps es ps' es' fs fs')
  after_climb n k j s p z ps es fs pp sp fz (cross m j' s' p' z' ps' es' fs' pp' sp' fz' w) =
      absurd (both_ways (full z) (ap full (beside n j j' p p' z z' pp sp pp' sp').2 ∙ fz') fz)
  after_climb n k j s p z ps es fs pp sp fz (climb m j' s' p' z' ps' es' fs' pp' sp' fz' w) =
      subst (λ (i : Tree). Rests t k (number i)) (sym (beside n j j' p p' z z' pp sp pp' sp').0) w

  pub one_place : (k i n : ℕ) → Rests t k n → Rests t i n → k ≡ i
  one_place k i n (rest m s ps es fs e) r = e ∙ sym (after_rest n i s ps es fs r)
  one_place k i n (cross m j s p z ps es fs pp sp fz w) r = one_place k i j w (after_cross n i j s p z ps es fs pp sp fz r)
  one_place k i n (climb m j s p z ps es fs pp sp fz w) r = one_place k i (number p) w (after_climb n i j s p z ps es fs pp sp fz r)

-- A number that lies in a tree.
abbrev Inside : Tree → ℕ → Type 0
Inside t k = (first t ≤ k) × (k ≤ number t)

-- A litre that falls at leaf a of the part s of t rests in record k of s, as pouring says.
record Stop (t s : Tree) (a k : ℕ) : Type 0 where
  walk : Rests t k a
  inside : Inside s k
  out : excess a 1 s ≡ 0
  tree : poured a 1 s ≡ grown k s

-- A litre that falls at leaf a of the full part s of t walks up to its top.
record Pass (t s : Tree) (a : ℕ) : Type 0 where
  brim : full s ≡ true
  walk : (k : ℕ) → Rests t k (number s) → Rests t k a

abbrev Way : Tree → Tree → ℕ → Type 0
Way t s a = ((k : ℕ) × Stop t s a k) ⊎ Pass t s a

-- A merge of t seen from its side s: the other side is z, with the landing j in it.
record Fork (t : Tree) (n o w j : ℕ) (s z : Tree) (mk : ℕ → Tree → Tree → Tree) : Type 0 where
  leads : (a : ℕ) → has_leaf a s ≡ true → Leads a j o mk
  grows : (k : ℕ) → grown k (mk w s z) ≡ mk (cond (eqb k n) (w + 1) w) (grown k s) (grown k z)
  brims : full s ≡ true → full z ≡ true → w ≡ o → full (mk w s z) ≡ true
  lacks : (w ≡ o → ⊥) → full (mk w s z) ≡ false
  named : n ≡ number (mk w s z)
  here : Part t (mk w s z)
  there : Part t s
  side : Side (mk w s z) (number s) j z
  small : w ≤ o
  apart : (k : ℕ) → Inside s k → (k ≡ n → ⊥) × (grown k z ≡ z) × Inside (mk w s z) k
  other : (k : ℕ) → Inside z k → (k ≡ n → ⊥) × (grown k s ≡ s) × Inside (mk w s z) k
  top : (grown n s ≡ s) × (grown n z ≡ z) × Inside (mk w s z) n

module _ (t : Tree) (n o w j : ℕ) (s z : Tree) (mk : ℕ → Tree → Tree → Tree) (f : Fork t n o w j s z mk) (a : ℕ) (ha : has_leaf a s ≡ true) where
  in_first_lem : (k : ℕ) → Stop t s a k → Stop t (mk w s z) a k
  in_first_lem k q =
      let m = quiet a 1 j o w s z mk (f.leads a ha) q.out in
      let m0 = m.0 in
      let st = q.tree in
      let cw : cond (eqb k n) (w + 1) w ≡ w = cond-false (eqb k n) (w + 1) w (ne_eqb k n (f.apart k q.inside).0) in
      let gz : grown k z ≡ z = (f.apart k q.inside).1 in
      let gr = f.grows k in
      record { walk = q.walk; inside = (f.apart k q.inside).2; out = m.1; tree = cc }

  in_second_lem : Pass t s a → (k : ℕ) → Stop t z j k → Stop t (mk w s z) a k
  in_second_lem p k q =
      let fz : full z ≡ false = ⊎_elim
      (λ (e : full z ≡ true). let u = (full_passes j 1 z e).1 in let v = q.out in absurd (omega arith))
      (λ (e : full z ≡ false). e) (cases_Bool (full z)) in
      let ps = full_passes a 1 s p.brim in
      let p0 = ps.0 in
      let p1 = ps.1 in
      let zo = q.out in
      let zt = q.tree in
      let go : excess j (excess a 1 s) z ≡ 0 = cc in
      let gt : poured j (excess a 1 s) z ≡ grown k z = cc in
      let gw : filled o w (excess j (excess a 1 s) z) ≡ w = omega arith in
      let cw : cond (eqb k n) (w + 1) w ≡ w = cond-false (eqb k n) (w + 1) w (ne_eqb k n (f.other k q.inside).0) in
      let gs : grown k s ≡ s = (f.other k q.inside).1 in
      let lt = (f.leads a ha).tree 1 w s z in
      let lo = (f.leads a ha).out 1 w s z in
      let gr = f.grows k in
      record {
        walk = p.walk k (cross (number s) j s (mk w s z) z f.there refl p.brim f.here f.side fz q.walk);
        inside = (f.other k q.inside).2;
        out = omega arith;
        tree = cc;
      }

  to_top : Pass t s a → full z ≡ true → (k : ℕ) → Rests t k (number (mk w s z)) → Rests t k a
  to_top p fz k r = p.walk k (climb (number s) j s (mk w s z) z f.there refl p.brim f.here f.side fz r)

  in_top : Pass t s a → full z ≡ true → (w ≡ o → ⊥) → Stop t (mk w s z) a n
  in_top p fz ne =
      let ps = full_passes a 1 s p.brim in
      let p0 = ps.0 in
      let p1 = ps.1 in
      let pz = full_passes j 1 z fz in
      let z0 = pz.0 in
      let z1 = pz.1 in
      let wo = f.small in
      let go : excess j (excess a 1 s) z ≡ 1 = cc in
      let gt : poured j (excess a 1 s) z ≡ z = cc in
      let gw : filled o w (excess j (excess a 1 s) z) ≡ w + 1 = omega arith in
      let cw : cond (eqb n n) (w + 1) w ≡ w + 1 = cond-true (eqb n n) (w + 1) w (eq-eqb n n refl) in
      let gs : grown n s ≡ s = f.top.0 in
      let gz : grown n z ≡ z = f.top.1 in
      let lt = (f.leads a ha).tree 1 w s z in
      let lo = (f.leads a ha).out 1 w s z in
      let gr = f.grows n in
      record {
        walk = to_top p fz n (rest (number (mk w s z)) (mk w s z) f.here refl (f.lacks ne) f.named);
        inside = f.top.2;
        out = omega arith;
        tree = cc;
      }

  way : Way t s a → Way t z j → Way t (mk w s z) a
  way ws wz = ⊎_elim
      (λ (q : (k : ℕ) × Stop t s a k). inl (q.0, in_first_lem q.0 q.1))
      (λ (p : Pass t s a). ⊎_elim
      (λ (q : (k : ℕ) × Stop t z j k). inl (q.0, in_second_lem p q.0 q.1))
      (λ (q : Pass t z j). ⊎_elim
      (λ (e : w ≡ o). inr (record { brim = f.brims p.brim q.brim e; walk = to_top p q.brim }))
      (λ (e : w ≡ o → ⊥). inl (n, in_top p q.brim e))
      (cases_eq w o)) wz) ws

-- Two numbers told apart by their order.
grown_before : (b k : ℕ) (t : Tree) → Numbered b t → k < b → grown k t ≡ t
grown_before b k t h e = grown_elsewhere b k t h (inl e)

grown_behind : (b k : ℕ) (t : Tree) → Numbered b t → number t < k → grown k t ≡ t
grown_behind b k t h e = grown_elsewhere b k t h (inr e)

module _ (t : Tree) (b n o w c x y : ℕ) (l r : Tree) (in_t : (p : Tree) → Part (merge n o w c x y l r) p → Part t p)
    (h : Numbered b (merge n o w c x y l r)) (g : Within (merge n o w c x y l r)) where
  -- Where the numbers of the two sides and of the merge lie.
  abbrev Lie : Type 0
  Lie = (first l ≡ b) × (first r ≡ c) × (number l + 1 ≡ c) × (number r + 1 ≡ n) × (b ≤ number l) × (c ≤ number r)

  lie : Lie
  lie =
      let h1 = h.1 in
      let h3 = h.3 in
      let kl = last_number b l h.0 in
      let kr = last_number c r h.2 in
      let kl0 = kl.0 in
      let kr0 = kr.0 in
      (first_number b l h.0, first_number c r h.2, omega arith, omega arith, kl.1, kr.1)

  fork_left : Fork t n o w y l r (leftward n o c x y)
  fork_left = let i = lie in record {
    leads = λ a e. to_left n o c x y a (let d = leaf_number a b l h.0 e in omega arith);
    grows = λ k. refl;
    brims = λ p q e. full_from n o w c x y l r p q e;
    lacks = λ e. and_right (full l) (full r && eqb w o) (and_right (full r) (eqb w o) (ne_eqb w o e));
    named = refl;
    here = in_t (merge n o w c x y l r) (inl refl);
    there = in_t l (inr (inl (part_self l)));
    side = inl (refl, refl, refl);
    small = g.2;
    apart = λ k d. (λ e. omega arith, grown_before c k r h.2 (omega arith), omega arith);
    other = λ k d. (λ e. omega arith, grown_behind b k l h.0 (omega arith), omega arith);
    top = (grown_behind b n l h.0 (omega arith), grown_behind c n r h.2 (omega arith), omega arith);
  }

  fork_right : Fork t n o w x r l (rightward n o c x y)
  fork_right = let i = lie in record {
    leads = λ a e. to_right n o c x y a (leaf_number a c r h.2 e).0;
    grows = λ k. refl;
    brims = λ p q e. full_from n o w c x y l r q p e;
    lacks = λ e. and_right (full l) (full r && eqb w o) (and_right (full r) (eqb w o) (ne_eqb w o e));
    named = refl;
    here = in_t (merge n o w c x y l r) (inl refl);
    there = in_t r (inr (inr (part_self r)));
    side = inr (refl, refl, refl);
    small = g.2;
    apart = λ k d. (λ e. omega arith, grown_behind b k l h.0 (omega arith), omega arith);
    other = λ k d. (λ e. omega arith, grown_before c k r h.2 (omega arith), omega arith);
    top = (grown_behind c n r h.2 (omega arith), grown_behind b n l h.0 (omega arith), omega arith);
  }

basin_way : (t : Tree) (n o w a : ℕ) → Part t (basin n o w) → w ≤ o → a ≡ n → Way t (basin n o w) a
basin_way t n o w a p g e = ⊎_elim
    (λ (q : eqb w o ≡ true). inr (record { brim = q; walk = λ k r. subst (λ (i : ℕ). Rests t k i) (sym e) r }))
    (λ (q : eqb w o ≡ false).
    let ne = eqb-false w o q in
    let wf : filled o w 1 ≡ w + 1 = fill1 ne in
    let of : 1 - (o - w) ≡ 0 = out1 ne in
    let cw : cond (eqb n n) (w + 1) w ≡ w + 1 = cond-true (eqb n n) (w + 1) w (eq-eqb n n refl) in
    inl (
      n,
      record {
        walk = rest a (basin n o w) p e q (sym e);
        inside = (omega arith, omega arith);
        out = excess_basin a 1 n o w ∙ of;
        tree = poured_basin a 1 n o w ∙ ap (λ (i : ℕ). basin n o i) (wf ∙ sym cw);
      },
    ))
    (cases_Bool (eqb w o))
  where
    fill1 : (w ≡ o → ⊥) → filled o w 1 ≡ w + 1
    fill1 ne = omega arith

    out1 : (w ≡ o → ⊥) → 1 - (o - w) ≡ 0
    out1 ne = omega arith

outlet_way : (t : Tree) (n w a : ℕ) → Part t (outlet n w) → a ≡ n → Way t (outlet n w) a
outlet_way t n w a p e =
    let cw : cond (eqb n n) (w + 1) w ≡ w + 1 = cond-true (eqb n n) (w + 1) w (eq-eqb n n refl) in
    inl (
      n,
      record {
        walk = rest a (outlet n w) p e refl (sym e);
        inside = (omega arith, omega arith);
        out = excess_outlet a 1 n w;
        tree = poured_outlet a 1 n w ∙ ap (λ (i : ℕ). outlet n i) (sym cw);
      },
    )

-- A litre that falls at a leaf of a part either rests in it, as pouring says, or walks up through it.
falls : (t : Tree) (b : ℕ) (s : Tree) → ((p : Tree) → Part s p → Part t p) → Numbered b s → Shaped s → Within s
    → (a : ℕ) → has_leaf a s ≡ true → Way t s a
falls t b (basin n o w) in_t h sh g a e = basin_way t n o w a (in_t (basin n o w) refl) g (eqb-true a n e)
falls t b (outlet n w) in_t h sh g a e = outlet_way t n w a (in_t (outlet n w) refl) (eqb-true a n e)
falls t b (merge n o w c x y l r) in_t h sh g a e =
    let fl = falls t b l (λ p d. in_t p (inr (inl d))) h.0 sh.0 g.0 in
    let fr = falls t c r (λ p d. in_t p (inr (inr d))) h.2 sh.1 g.1 in
    ⊎_elim
    (λ i. way t n o w y l r (leftward n o c x y) (fork_left t b n o w c x y l r in_t h g) a i (fl a i) (fr y sh.4))
    (λ i. way t n o w x r l (rightward n o c x y) (fork_right t b n o w c x y l r in_t h g) a i (fr a i) (fl x sh.3))
    (or_cases (has_leaf a l) (has_leaf a r) e)

-- On a site the litre rests.
site_stop : (a : ℕ) (t : Tree) → Sound t → has_leaf a t ≡ true → (k : ℕ) × Stop t t a k
site_stop a t h e = ⊎_elim
    (λ (q : (k : ℕ) × Stop t t a k). q)
    (λ (p : Pass t t a).
    let u = (full_passes a 1 t p.brim).1 in
    let v = open_excess a 1 t (formed_open t h.formed) in
    absurd (omega arith))
    (falls t 0 t (λ p d. d) h.formed.numbered h.formed.shaped h.within a e)

pub rests_once : (a : ℕ) (t : Tree) → Sound t → has_leaf a t ≡ true → (k : ℕ) × Rests t k a × ((j : ℕ) → Rests t j a → j ≡ k)
rests_once a t h e =
    let q = site_stop a t h e in
    (q.0, q.1.walk, λ j r. one_place 0 t h.formed.numbered j q.0 a r q.1.walk)

litre_pours : (a : ℕ) (t : Tree) → Sound t → has_leaf a t ≡ true → Litre a t (poured a 1 t)
litre_pours a t h e = let q = site_stop a t h e in record { place = q.0; rests = q.1.walk; grows = q.1.tree }

litre_is : (a : ℕ) (t u : Tree) → Sound t → has_leaf a t ≡ true → Litre a t u → u ≡ poured a 1 t
litre_is a t u h e m =
    let q = site_stop a t h e in
    let p : m.place ≡ q.0 = one_place 0 t h.formed.numbered m.place q.0 a m.rests q.1.walk in
    m.grows ∙ ap (λ (k : ℕ). grown k t) p ∙ sym q.1.tree

leaf_kept : (a b v : ℕ) (t : Tree) → has_leaf a t ≡ true → has_leaf a (poured b v t) ≡ true
leaf_kept a b v t e = leaf_same a (poured b v t) t (shape_kept b v t) ∙ e

one_more : (a v : ℕ) (t : Tree) → poured a v (poured a 1 t) ≡ poured a (suc v) t
one_more a v t = (obeys t).more a 1 v ∙ ap (λ (k : ℕ). poured a k t) (omega arith)

pub rain_is : (a v : ℕ) (t u : Tree) → Sound t → has_leaf a t ≡ true → Rain a v t u → u ≡ poured a v t
rain_is a zero t u h e m = m ∙ sym ((obeys t).none a)
rain_is a (suc v) t u h e m =
    let p : m.0 ≡ poured a 1 t = litre_is a t m.0 h e m.1 in
    let rest : Rain a v (poured a 1 t) u = subst (λ (s : Tree). Rain a v s u) p m.2 in
    rain_is a v (poured a 1 t) u (sound_kept a 1 t h) (leaf_kept a a 1 t e) rest ∙ one_more a v t

pub rain_from : (a v : ℕ) (t u : Tree) → Sound t → has_leaf a t ≡ true → u ≡ poured a v t → Rain a v t u
rain_from a zero t u h e m = m ∙ (obeys t).none a
rain_from a (suc v) t u h e m = (
  poured a 1 t,
  litre_pours a t h e,
  rain_from a v (poured a 1 t) u (sound_kept a 1 t h) (leaf_kept a a 1 t e) (m ∙ sym (one_more a v t)),
)
