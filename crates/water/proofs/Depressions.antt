-- Rain over a depression, from its top up to the site's.
use Rattle.std.proofs.Common.{◌≡◌, ℕ, ◌+◌, ◌-◌, ◌<◌, ◌≤◌, Bool, true, false, cond, ◌||◌, eqb, ltb, sym, refl, ap, ◌∙◌, subst, ap₂, inl, inr, ⊎_elim, arith}
use Rattle.std.proofs.lemmas.Bool.{cases_lt, or_parts, or_left, or_right, cond-true, cond-false, eq-eqb, lt-ltb, le-ltb, eqb-true, or_from, true≢false, false≢true}
use Rattle.water.specs.Tree.{Tree, basin, outlet, merge, has_leaf, is_open, full, volume, dried}
use Rattle.water.specs.Formed.{Numbered}
use Rattle.water.specs.Sound.{Within, Sound}
use Rattle.water.specs.Pour.{poured, excess}
use Rattle.water.specs.Water.{held, room, water_at}
use Rattle.water.specs.Parts.{number, Part, Names, has_record}
use Rattle.water.specs.Depression.{free, Stays, Spills}
use Rattle.water.proofs.Steps.{poured_left, poured_right}
use Rattle.water.proofs.Order.{obeys, leftward, rightward, to_left, to_right, quiet}
use Rattle.water.proofs.Shape.{shape_kept, kept_same, open_same, volume_same, number_same, numbered_same}
use Rattle.water.proofs.Keep.{balance, full_passes, full_parts, full_from, within_kept}
use Rattle.water.proofs.Room.{closed_excess, open_excess, room_is, formed_open}
use Rattle.water.proofs.Numbers.{last_number, leaf_number, part_self, names}

pub leaf_of_part : (a : ℕ) (t s : Tree) → Part t s → has_leaf a s ≡ true → has_leaf a t ≡ true
leaf_of_part a (basin n o w) s p e = ap (λ (i : Tree). has_leaf a i) (sym p) ∙ e
leaf_of_part a (outlet n w) s p e = ap (λ (i : Tree). has_leaf a i) (sym p) ∙ e
leaf_of_part a (merge n o w c x y l r) s p e =
    let hl = leaf_of_part a l s in
    let hr = leaf_of_part a r s in
    ⊎_elim (λ (i : s ≡ merge n o w c x y l r). ap (λ (j : Tree). has_leaf a j) (sym i) ∙ e)
    (λ j. ⊎_elim (λ i. or_left (has_leaf a l) (has_leaf a r) (hl i e)) (λ i. or_right (has_leaf a l) (has_leaf a r) (hr i e)) j) p

part_within : (t s : Tree) → Within t → Part t s → Within s
part_within (basin n o w) s h p = subst Within (sym p) h
part_within (outlet n w) s h p = subst Within (sym p) h
part_within (merge n o w c x y l r) s h p =
    let hl = part_within l s h.0 in
    let hr = part_within r s h.1 in
    ⊎_elim (λ (i : s ≡ merge n o w c x y l r). subst Within (sym i) h) (λ j. ⊎_elim hl hr j) p

part_held : (t s : Tree) → Part t s → held s ≤ held t
part_held (basin n o w) s p = let e = ap held p in omega arith
part_held (outlet n w) s p = let e = ap held p in omega arith
part_held (merge n o w c x y l r) s p =
    let hl = part_held l s in
    let hr = part_held r s in
    ⊎_elim (λ (i : s ≡ merge n o w c x y l r). let e : held s ≡ held l + held r + w = ap held i in omega arith)
    (λ j. ⊎_elim (λ i. let e = hl i in omega arith) (λ i. let e = hr i in omega arith) j) p

-- At a number that no record has stands no water.
no_water : (k : ℕ) (t : Tree) → has_record k t ≡ false → water_at k t ≡ 0
no_water k (basin n o w) h = cond-false (eqb k n) w 0 h
no_water k (outlet n w) h = cond-false (eqb k n) w 0 h
no_water k (merge n o w c x y l r) h =
    let p = or_parts (eqb k n) (has_record k l || has_record k r) h in
    let q = or_parts (has_record k l) (has_record k r) p.1 in
    let el = no_water k l q.0 in
    let er = no_water k r q.1 in
    cond-false (eqb k n) w (cond (ltb k c) (water_at k l) (water_at k r)) p.0
    ∙ ⊎_elim
    (λ (i : k < c). cond-true (ltb k c) (water_at k l) (water_at k r) (lt-ltb k c i) ∙ el)
    (λ (i : c ≤ k). cond-false (ltb k c) (water_at k l) (water_at k r) (le-ltb k c i) ∙ er)
    (cases_lt k c)

record_dried : (k : ℕ) (t : Tree) → has_record k (dried t) ≡ has_record k t
record_dried k (basin n o w) = refl
record_dried k (outlet n w) = refl
record_dried k (merge n o w c x y l r) = ap₂ (λ (i j : Bool). eqb k n || (i || j)) (record_dried k l) (record_dried k r)

record_same : (k : ℕ) (s t : Tree) → dried s ≡ dried t → has_record k s ≡ has_record k t
record_same k = kept_same (has_record k) (record_dried k)

-- What rises when v litres fall at a leaf of the part s and none leaves it.
record Rise (a v : ℕ) (t s : Tree) : Type 0 where
  out : excess a v t ≡ 0
  inside : Part (poured a v t) (poured a v s)
  outside : (k : ℕ) → has_record k s ≡ false → water_at k (poured a v t) ≡ water_at k t

rise_self : (a v : ℕ) (t : Tree) → excess a v t ≡ 0 → Rise a v t t
rise_self a v t e = record {
  out = e;
  inside = part_self (poured a v t);
  outside = λ k h. no_water k (poured a v t) (record_same k (poured a v t) t (shape_kept a v t) ∙ h) ∙ sym (no_water k t h);
}

rise_top : (a v : ℕ) (t s : Tree) → s ≡ t → excess a v s ≡ 0 → Rise a v t s
rise_top a v t s p e = subst (λ (i : Tree). Rise a v t i) (sym p) (rise_self a v t (ap (λ (i : Tree). excess a v i) (sym p) ∙ e))

rise_left : (a v n o w c x y : ℕ) (l r s : Tree) → a < c → Rise a v l s → Rise a v (merge n o w c x y l r) s
rise_left a v n o w c x y l r s h q =
    let m = quiet a v y o w l r (leftward n o c x y) (to_left n o c x y a h) q.out in
    record {
      out = m.1;
      inside = subst (λ (i : Tree). Part i (poured a v s)) (sym m.0) (inr (inl q.inside));
      outside = λ k i. ap (λ (z : Tree). water_at k z) m.0
          ∙ ap (λ (z : ℕ). cond (eqb k n) w (cond (ltb k c) z (water_at k r))) (q.outside k i);
    }

rise_right : (a v n o w c x y : ℕ) (l r s : Tree) → c ≤ a → Rise a v r s → Rise a v (merge n o w c x y l r) s
rise_right a v n o w c x y l r s h q =
    let m = quiet a v x o w r l (rightward n o c x y) (to_right n o c x y a h) q.out in
    record {
      out = m.1;
      inside = subst (λ (i : Tree). Part i (poured a v s)) (sym m.0) (inr (inr q.inside));
      outside = λ k i. ap (λ (z : Tree). water_at k z) m.0
          ∙ ap (λ (z : ℕ). cond (eqb k n) w (cond (ltb k c) (water_at k l) z)) (q.outside k i);
    }

rise : (a v b : ℕ) (t s : Tree) → Numbered b t → Part t s → has_leaf a s ≡ true → excess a v s ≡ 0 → Rise a v t s
rise a v b (basin n o w) s h p e z = rise_top a v (basin n o w) s p z
rise a v b (outlet n w) s h p e z = rise_top a v (outlet n w) s p z
rise a v b (merge n o w c x y l r) s h p e z =
    let hl = λ (i : Part l s). rise a v b l s h.0 i e z in
    let hr = λ (i : Part r s). rise a v c r s h.2 i e z in
    let kl = last_number b l h.0 in
    let kl0 = kl.0 in
    let h1 = h.1 in
    ⊎_elim (λ (i : s ≡ merge n o w c x y l r). rise_top a v (merge n o w c x y l r) s i z)
    (λ j. ⊎_elim
    (λ i. let d = leaf_number a b l h.0 (leaf_of_part a l s i e) in rise_left a v n o w c x y l r s (omega arith) (hl i))
    (λ i. rise_right a v n o w c x y l r s (leaf_number a c r h.2 (leaf_of_part a r s i e)).0 (hr i)) j) p

-- A full part stays as it is.
stays_full : (a v : ℕ) (t s : Tree) → Part t s → full s ≡ true → Part (poured a v t) s
stays_full a v (basin n o w) s p f =
    let q : full (basin n o w) ≡ true = ap full (sym p) ∙ f in
    subst (λ (i : Tree). Part i s) (sym (full_passes a v (basin n o w) q).0) p
stays_full a v (outlet n w) s p f =
    let q : full (outlet n w) ≡ true = ap full (sym p) ∙ f in
    subst (λ (i : Tree). Part i s) (sym (full_passes a v (outlet n w) q).0) p
stays_full a v (merge n o w c x y l r) s p f =
    let l1 = λ (i : Part l s). stays_full a v l s i f in
    let r1 = λ (i : Part r s). stays_full y (excess a v l) r s i f in
    let l2 = λ (i : Part l s). stays_full x (excess a v r) l s i f in
    let r2 = λ (i : Part r s). stays_full a v r s i f in
    ⊎_elim
    (λ (i : s ≡ merge n o w c x y l r).
    let q : full (merge n o w c x y l r) ≡ true = ap full (sym i) ∙ f in
    subst (λ (j : Tree). Part j s) (sym (full_passes a v (merge n o w c x y l r) q).0) (inl i))
    (λ j. ⊎_elim
    (λ (h : a < c). subst (λ (k : Tree). Part k s) (sym (poured_left a v n o w c x y l r h)) (inr (⊎_elim (λ i. inl (l1 i)) (λ i. inr (r1 i)) j)))
    (λ (h : c ≤ a). subst (λ (k : Tree). Part k s) (sym (poured_right a v n o w c x y l r h)) (inr (⊎_elim (λ i. inl (l2 i)) (λ i. inr (r2 i)) j)))
    (cases_lt a c)) p

-- A closed tree without room is full.
no_room : (t : Tree) → is_open t ≡ false → Within t → room t ≡ 0 → full t ≡ true
no_room (basin n o w) h g e = eq-eqb w o (omega arith)
no_room (outlet n w) h g e = absurd (true≢false h)
no_room (merge n o w c x y l r) h g e =
    let p = or_parts (is_open l) (is_open r) h in
    let g2 = g.2 in
    full_from n o w c x y l r (no_room l p.0 g.0 (omega arith)) (no_room r p.1 g.1 (omega arith)) (omega arith)

free_is : (s : Tree) → is_open s ≡ false → Within s → free s ≡ room s
free_is s h g = let e = room_is s h g in omega arith

pub within_volume : (t s : Tree) → Within t → Part t s → is_open s ≡ false → held s ≤ volume s
within_volume t s h p c = let e = room_is s c (part_within t s h p) in omega arith

-- A full tree is closed and has no room.
full_closed : (t : Tree) → full t ≡ true → (is_open t ≡ false) × (room t ≡ 0)
full_closed (basin n o w) h = let e = eqb-true w o h in (refl, omega arith)
full_closed (outlet n w) h = absurd (false≢true h)
full_closed (merge n o w c x y l r) h =
    let p = full_parts n o w c x y l r h in
    let e = p.2 in
    let hl = full_closed l p.0 in
    let hr = full_closed r p.1 in
    let rl = hl.1 in
    let rr = hr.1 in
    (or_from (is_open l) (is_open r) hl.0 hr.0, omega arith)

pub full_volume : (t : Tree) → Within t
    → (full t ≡ true → (is_open t ≡ false) × (held t ≡ volume t)) × (is_open t ≡ false → held t ≡ volume t → full t ≡ true)
full_volume t h = (
  λ f. let p = full_closed t f in let e = room_is t p.0 h in let r = p.1 in (p.0, omega arith),
  λ c v. let e = room_is t c h in no_room t c h (omega arith),
)

-- What was s is named by the same number after pouring.
named_after : (a u b v : ℕ) (t s : Tree) → Numbered 0 t → Part (poured a u t) (poured b v s) → Names (poured a u t) (number s) (poured b v s)
named_after a u b v t s h p = subst (λ (i : ℕ). Names (poured a u t) i (poured b v s))
    (number_same (poured b v s) s (shape_kept b v s))
    (names 0 (poured a u t) (poured b v s) (numbered_same 0 t (poured a u t) (sym (shape_kept a u t)) h) p)

pub stays : (a v : ℕ) (t s : Tree) → Sound t → Part t s → is_open s ≡ false → has_leaf a s ≡ true → v ≤ free s → Stays a v t s
stays a v t s h p c e le =
    let f = free_is s c (part_within t s h.within p) in
    let x = closed_excess a v s c in
    let q = rise a v 0 t s h.formed.numbered p e (x ∙ (omega arith)) in
    record { inside = named_after a v a v t s h.formed.numbered q.inside; outside = q.outside }

-- After its free volume of rain a depression is full.
filled_up : (a : ℕ) (s : Tree) → Within s → is_open s ≡ false → (full (poured a (free s) s) ≡ true) × (held (poured a (free s) s) ≡ held s + free s)
filled_up a s g c =
    let f = free_is s c g in
    let z : Tree = poured a (free s) s in
    let x : excess a (free s) s ≡ 0 = closed_excess a (free s) s c ∙ (omega arith) in
    let b = balance a (free s) s in
    let cz : is_open z ≡ false = open_same z s (shape_kept a (free s) s) ∙ c in
    let gz : Within z = within_kept a (free s) s g in
    let vz : volume z ≡ volume s = volume_same z s (shape_kept a (free s) s) in
    let rz = room_is z cz gz in
    let rs = room_is s c g in
    let hz : held z ≡ held s + free s = omega arith in
    let r0 : room z ≡ 0 = omega arith in
    (no_room z cz gz r0, hz)

pub spills : (a v : ℕ) (t s : Tree) → Sound t → Part t s → is_open s ≡ false → has_leaf a s ≡ true → free s ≤ v → Spills a v t s
spills a v t s h p c e le =
    let g = part_within t s h.within p in
    let m = filled_up a s g c in
    let m1 = m.1 in
    let first = stays a (free s) t s h p c e (omega arith) in
    let sum : free s + (v - free s) ≡ v = omega arith in
    let both : poured a (v - free s) (poured a (free s) t) ≡ poured a v t =
    (obeys t).more a (free s) (v - free s) ∙ ap (λ (k : ℕ). poured a k t) sum in
    let b = balance a v t in
    let x = open_excess a v t (formed_open t h.formed) in
    let d = part_held t s p in
    record {
      inside = named_after a v a (free s) t s h.formed.numbered (subst (λ (i : Tree). Part i (poured a (free s) s)) both
          (stays_full a (v - free s) (poured a (free s) t) (poured a (free s) s) first.inside.part m.0));
      brim = m.0;
      outside = omega arith;
      rest = sym both;
    }
