-- The four laws of pouring, by one induction over the tree.
use Rattle.std.proofs.Common.{◌≡◌, ℕ, ◌+◌, ◌-◌, ◌<◌, ◌≤◌, sym, refl, ap, ◌∙◌, subst, ap₂, ⊎_elim, arith}
use Rattle.std.proofs.lemmas.Bool.{cases_lt}
use Rattle.water.specs.Tree.{Tree, basin, outlet, merge}
use Rattle.water.specs.Pour.{poured, excess}
use Rattle.water.proofs.Steps.{filled, excess_left, excess_right, poured_left, poured_right}

-- A tree that obeys the four laws.
pub record Obeys (t : Tree) : Type 0 where
  pub none : (a : ℕ) → poured a 0 t ≡ t
  pub none_out : (a : ℕ) → excess a 0 t ≡ 0
  pub more : (a u v : ℕ) → poured a v (poured a u t) ≡ poured a (u + v) t
  pub more_out : (a u v : ℕ) → excess a u t + excess a v (poured a u t) ≡ excess a (u + v) t
  pub brim : (a b u v : ℕ) → 0 < excess a u t → poured b v (poured a u t) ≡ poured a u t
  pub brim_out : (a b u v : ℕ) → 0 < excess a u t → excess b v (poured a u t) ≡ v
  pub swap : (a b u v : ℕ) → poured b v (poured a u t) ≡ poured a u (poured b v t)
  pub swap_out : (a b u v : ℕ) → excess a u t + excess b v (poured a u t) ≡ excess b v t + excess a u (poured b v t)

-- Filling twice is filling once with both.
filled_twice : (o w u v : ℕ) → filled o (filled o w u) v ≡ filled o w (u + v)
filled_twice o w u v = omega arith

left_over_twice : (o w u v : ℕ) → (u - (o - w)) + (v - (o - filled o w u)) ≡ (u + v) - (o - w)
left_over_twice o w u v = omega arith

-- Pouring into one side s and into the other side z: the order does not matter for either, nor for what passes both.
record Meet (a u b v x y : ℕ) (s z : Tree) : Type 0 where
  first : poured x (excess b v (poured y (excess a u s) z)) (poured a u s) ≡ poured a u (poured x (excess b v z) s)
  second : poured b v (poured y (excess a u s) z) ≡ poured y (excess a u (poured x (excess b v z) s)) (poured b v z)
  passed : excess y (excess a u s) z + excess x (excess b v (poured y (excess a u s) z)) (poured a u s)
      ≡ excess x (excess b v z) s + excess y (excess a u (poured x (excess b v z) s)) (poured b v z)

meet : (a u b v x y : ℕ) (s z : Tree) → Obeys s → Obeys z → Meet a u b v x y s z
meet a u b v x y s z hs hz = ⊎_elim
    (λ (e : 0 < excess a u s). ⊎_elim (λ (g : 0 < excess b v z). both e g) (λ (g : excess b v z ≤ 0). one e g) (cases_lt 0 (excess b v z)))
    (λ (e : excess a u s ≤ 0). ⊎_elim (λ (g : 0 < excess b v z). other e g) (λ (g : excess b v z ≤ 0). neither e g) (cases_lt 0 (excess b v z)))
    (cases_lt 0 (excess a u s))
  where
    both : 0 < excess a u s → 0 < excess b v z → Meet a u b v x y s z
    both e g =
        let p = hs.brim a x u (excess b v (poured y (excess a u s) z)) e in
        let p2 = hs.brim_out a x u (excess b v (poured y (excess a u s) z)) e in
        let p3 = hs.brim a x u (excess b v z) e in
        let p4 = hs.brim_out a x u (excess b v z) e in
        let p5 = hs.swap a x u (excess b v z) in
        let p6 = hs.swap_out a x u (excess b v z) in
        let q = hz.brim b y v (excess a u (poured x (excess b v z) s)) g in
        let q2 = hz.brim_out b y v (excess a u (poured x (excess b v z) s)) g in
        let q3 = hz.brim b y v (excess a u s) g in
        let q4 = hz.brim_out b y v (excess a u s) g in
        let q5 = hz.swap b y v (excess a u s) in
        let q6 = hz.swap_out b y v (excess a u s) in
        record { first = cc; second = cc; passed = omega arith }

    one : 0 < excess a u s → excess b v z ≤ 0 → Meet a u b v x y s z
    one e g =
        let g0 : excess b v z ≡ 0 = omega arith in
        let p = hs.brim a x u (excess b v (poured y (excess a u s) z)) e in
        let p2 = hs.brim_out a x u (excess b v (poured y (excess a u s) z)) e in
        let p3 = hs.none x in
        let p4 = hs.none_out x in
        let q = hz.swap b y v (excess a u s) in
        let q2 = hz.swap_out b y v (excess a u s) in
        record { first = grind arith; second = grind arith; passed = grind arith }

    other : excess a u s ≤ 0 → 0 < excess b v z → Meet a u b v x y s z
    other e g =
        let e0 : excess a u s ≡ 0 = omega arith in
        let p = hs.swap a x u (excess b v z) in
        let p2 = hs.swap_out a x u (excess b v z) in
        let q = hz.brim b y v (excess a u (poured x (excess b v z) s)) g in
        let q2 = hz.brim_out b y v (excess a u (poured x (excess b v z) s)) g in
        let q3 = hz.none y in
        let q4 = hz.none_out y in
        record { first = grind arith; second = grind arith; passed = grind arith }

    neither : excess a u s ≤ 0 → excess b v z ≤ 0 → Meet a u b v x y s z
    neither e g =
        let e0 : excess a u s ≡ 0 = omega arith in
        let g0 : excess b v z ≡ 0 = omega arith in
        let p = hs.none x in
        let p2 = hs.none_out x in
        let p3 = hs.swap a x u 0 in
        let p4 = hs.swap_out a x u 0 in
        let q = hz.none y in
        let q2 = hz.none_out y in
        let q3 = hz.swap b y v 0 in
        let q4 = hz.swap_out b y v 0 in
        record { first = grind arith; second = grind arith; passed = grind arith }

-- What comes to one side of a merge in two pours goes on as one.
record Twice (a u b v y o w : ℕ) (s z m : Tree) (mk : ℕ → Tree → Tree → Tree) : Type 0 where
  tree : poured b v (poured a u m)
      ≡ mk (filled o w (excess y (excess a u s + excess b v (poured a u s)) z))
      (poured b v (poured a u s)) (poured y (excess a u s + excess b v (poured a u s)) z)
  out : excess a u m + excess b v (poured a u m) ≡ excess y (excess a u s + excess b v (poured a u s)) z - (o - w)

-- A merge whose side s has the leaf a, with the landing y in the other side z.
pub record Leads (a y o : ℕ) (mk : ℕ → Tree → Tree → Tree) : Type 0 where
  pub tree : (v w : ℕ) (s z : Tree) → poured a v (mk w s z) ≡ mk (filled o w (excess y (excess a v s) z)) (poured a v s) (poured y (excess a v s) z)
  pub out : (v w : ℕ) (s z : Tree) → excess a v (mk w s z) ≡ excess y (excess a v s) z - (o - w)

twice : (a u b v y o w : ℕ) (s z : Tree) (mk : ℕ → Tree → Tree → Tree) → Leads a y o mk → Leads b y o mk → Obeys z
    → Twice a u b v y o w s z (mk w s z) mk
twice a u b v y o w s z mk ha hb hz =
    let e : ℕ = excess a u s in
    let s1 : Tree = poured a u s in
    let g : ℕ = excess b v s1 in
    let f : ℕ = excess y e z in
    let z1 : Tree = poured y e z in
    let h : ℕ = excess y g z1 in
    let m1 : poured a u (mk w s z) ≡ mk (filled o w f) s1 z1 = ha.tree u w s z in
    let m2 : poured b v (mk (filled o w f) s1 z1) ≡ mk (filled o (filled o w f) h) (poured b v s1) (poured y g z1) = hb.tree v (filled o w f) s1 z1 in
    let zs : poured y g z1 ≡ poured y (e + g) z = hz.more y e g in
    let fs : f + h ≡ excess y (e + g) z = hz.more_out y e g in
    let ws : filled o (filled o w f) h ≡ filled o w (excess y (e + g) z) = filled_twice o w f h ∙ ap (λ (k : ℕ). filled o w k) fs in
    let x1 : excess a u (mk w s z) ≡ f - (o - w) = ha.out u w s z in
    let x2 : excess b v (mk (filled o w f) s1 z1) ≡ h - (o - filled o w f) = hb.out v (filled o w f) s1 z1 in
    let x3 : excess b v (poured a u (mk w s z)) ≡ h - (o - filled o w f) = ap (λ (t : Tree). excess b v t) m1 ∙ x2 in
    record {
      tree = cc;
      out = ap₂ (λ (i j : ℕ). i + j) x1 x3 ∙ left_over_twice o w f h ∙ ap (λ (k : ℕ). k - (o - w)) fs;
    }

filled_none : (o w k : ℕ) → k ≡ 0 → filled o w k ≡ w
filled_none o w k e = omega arith

nothing : (a y o w : ℕ) (s z : Tree) (mk : ℕ → Tree → Tree → Tree) → Leads a y o mk → Obeys s → Obeys z
    → (poured a 0 (mk w s z) ≡ mk w s z) × (excess a 0 (mk w s z) ≡ 0)
nothing a y o w s z mk ha hs hz =
    let p = hs.none a in
    let p2 = hs.none_out a in
    let q = hz.none y in
    let q2 = hz.none_out y in
    let f : excess y (excess a 0 s) z ≡ 0 = cc in
    let ws : filled o w (excess y (excess a 0 s) z) ≡ w = filled_none o w (excess y (excess a 0 s) z) f in
    let e = ha.tree 0 w s z in
    let k = ha.out 0 w s z in
    (cc, omega arith)

adding : (a u v y o w : ℕ) (s z : Tree) (mk : ℕ → Tree → Tree → Tree) → Leads a y o mk → Obeys s → Obeys z
    → (poured a v (poured a u (mk w s z)) ≡ poured a (u + v) (mk w s z))
    × (excess a u (mk w s z) + excess a v (poured a u (mk w s z)) ≡ excess a (u + v) (mk w s z))
adding a u v y o w s z mk ha hs hz =
    let h = twice a u a v y o w s z mk ha ha hz in
    let h1 = h.tree in
    let h2 = h.out in
    let p = hs.more a u v in
    let q = hs.more_out a u v in
    let e = ha.tree (u + v) w s z in
    let k = ha.out (u + v) w s z in
    (cc, h2 ∙ ap (λ (i : ℕ). excess y i z - (o - w)) q ∙ sym k)

-- A tree that takes nothing.
pub record Shut (t : Tree) : Type 0 where
  pub tree : (b v : ℕ) → poured b v t ≡ t
  pub out : (b v : ℕ) → excess b v t ≡ v

brim_shut : (a u : ℕ) (t : Tree) → Obeys t → 0 < excess a u t → Shut (poured a u t)
brim_shut a u t h e = record { tree = λ b v. h.brim a b u v e; out = λ b v. h.brim_out a b u v e }

shut : (b v y o w : ℕ) (s z : Tree) (mk : ℕ → Tree → Tree → Tree) → Leads b y o mk → Shut s → Shut z → o ≤ w
    → (poured b v (mk w s z) ≡ mk w s z) × (excess b v (mk w s z) ≡ v)
shut b v y o w s z mk hb hs hz full =
    let p = hs.tree b v in
    let p2 = hs.out b v in
    let q = hz.tree y v in
    let q2 = hz.out y v in
    let f : excess y (excess b v s) z ≡ v = cc in
    let f2 : poured y (excess b v s) z ≡ z = cc in
    let ws : filled o w (excess y (excess b v s) z) ≡ w = omega arith in
    let e = hb.tree v w s z in
    let k = hb.out v w s z in
    (cc, omega arith)

-- What a merge has let out has filled both sides and itself.
over : (a u y o w : ℕ) (s z : Tree) (mk : ℕ → Tree → Tree → Tree) → Leads a y o mk → Obeys s → Obeys z
    → 0 < excess a u (mk w s z)
    → (0 < excess a u s) × (0 < excess y (excess a u s) z) × (o ≤ filled o w (excess y (excess a u s) z))
over a u y o w s z mk ha hs hz h =
    let k = ha.out u w s z in
    let q2 = hz.none_out y in
    let f : 0 < excess y (excess a u s) z = omega arith in
    let c : 0 < excess a u s = ⊎_elim (λ (p : 0 < excess a u s). p) (λ (p : excess a u s ≤ 0).
    let e0 : excess a u s ≡ 0 = omega arith in
    let e1 : excess y (excess a u s) z ≡ excess y 0 z = ap (λ (i : ℕ). excess y i z) e0 in
    omega arith) (cases_lt 0 (excess a u s)) in
    (c, f, omega arith)

module _ (n o c x y : ℕ) where
  abbrev pub leftward : ℕ → Tree → Tree → Tree
  leftward w s z = merge n o w c x y s z

  abbrev pub rightward : ℕ → Tree → Tree → Tree
  rightward w s z = merge n o w c x y z s

  pub to_left : (a : ℕ) → a < c → Leads a y o leftward
  to_left a h = record { tree = λ v w s z. poured_left a v n o w c x y s z h; out = λ v w s z. excess_left a v n o w c x y s z h }

  pub to_right : (a : ℕ) → c ≤ a → Leads a x o rightward
  to_right a h = record { tree = λ v w s z. poured_right a v n o w c x y z s h; out = λ v w s z. excess_right a v n o w c x y z s h }

  -- A merge whose sides take nothing and that is full itself takes nothing.
  pub shut_top : (w : ℕ) (s z : Tree) → Shut s → Shut z → o ≤ w → Shut (merge n o w c x y s z)
  shut_top w s z hs hz full = record { tree = λ b v. (at b v).0; out = λ b v. (at b v).1 }
    where
      at : (b v : ℕ) → (poured b v (merge n o w c x y s z) ≡ merge n o w c x y s z) × (excess b v (merge n o w c x y s z) ≡ v)
      at b v = ⊎_elim (λ h. shut b v y o w s z leftward (to_left b h) hs hz full) (λ h. shut b v x o w z s rightward (to_right b h) hz hs full) (cases_lt b c)

  module _ (w : ℕ) (l r : Tree) (hl : Obeys l) (hr : Obeys r) where
    abbrev top : Tree
    top = merge n o w c x y l r

    none_at : (a : ℕ) → (poured a 0 top ≡ top) × (excess a 0 top ≡ 0)
    none_at a = ⊎_elim (λ h. nothing a y o w l r leftward (to_left a h) hl hr) (λ h. nothing a x o w r l rightward (to_right a h) hr hl) (cases_lt a c)

    more_at : (a u v : ℕ) → (poured a v (poured a u top) ≡ poured a (u + v) top)
        × (excess a u top + excess a v (poured a u top) ≡ excess a (u + v) top)
    more_at a u v = ⊎_elim (λ h. adding a u v y o w l r leftward (to_left a h) hl hr) (λ h. adding a u v x o w r l rightward (to_right a h) hr hl) (cases_lt a c)

    brim_at : (a u : ℕ) → 0 < excess a u top → Shut (poured a u top)
    brim_at a u e = ⊎_elim
        (λ h. let f = over a u y o w l r leftward (to_left a h) hl hr e in
        subst Shut (sym (poured_left a u n o w c x y l r h))
        (shut_top (filled o w (excess y (excess a u l) r)) (poured a u l) (poured y (excess a u l) r)
        (brim_shut a u l hl f.0) (brim_shut y (excess a u l) r hr f.1) f.2))
        (λ h. let f = over a u x o w r l rightward (to_right a h) hr hl e in
        subst Shut (sym (poured_right a u n o w c x y l r h))
        (shut_top (filled o w (excess x (excess a u r) l)) (poured x (excess a u r) l) (poured a u r)
        (brim_shut x (excess a u r) l hl f.1) (brim_shut a u r hr f.0) f.2))
        (cases_lt a c)

    abbrev Exchange : (a u b v : ℕ) → Type 0
    Exchange a u b v = (poured b v (poured a u top) ≡ poured a u (poured b v top))
        × (excess a u top + excess b v (poured a u top) ≡ excess b v top + excess a u (poured b v top))

    swap_both : (a u b v y' : ℕ) (s z : Tree) (mk : ℕ → Tree → Tree → Tree) → mk w s z ≡ top → Leads a y' o mk → Leads b y' o mk
        → Obeys s → Obeys z → Exchange a u b v
    swap_both a u b v y' s z mk t ha hb hs hz =
        subst (λ (m : Tree). (poured b v (poured a u m) ≡ poured a u (poured b v m))
        × (excess a u m + excess b v (poured a u m) ≡ excess b v m + excess a u (poured b v m))) t (p, q)
      where
        one : Twice a u b v y' o w s z (mk w s z) mk
        one = twice a u b v y' o w s z mk ha hb hz

        two : Twice b v a u y' o w s z (mk w s z) mk
        two = twice b v a u y' o w s z mk hb ha hz

        p : poured b v (poured a u (mk w s z)) ≡ poured a u (poured b v (mk w s z))
        p = let e = one.tree in
            let f = two.tree in
            let g = hs.swap a b u v in
            let k = hs.swap_out a b u v in
            cc

        q : excess a u (mk w s z) + excess b v (poured a u (mk w s z)) ≡ excess b v (mk w s z) + excess a u (poured b v (mk w s z))
        q = one.out ∙ ap (λ (i : ℕ). excess y' i z - (o - w)) (hs.swap_out a b u v) ∙ sym two.out

    swap_across : (a u b v : ℕ) → a < c → c ≤ b → Exchange a u b v
    swap_across a u b v ha hb =
        let m = meet a u b v x y l r hl hr in
        let m1 = m.first in
        let m2 = m.second in
        let m3 = m.passed in
        let e : ℕ = excess a u l in
        let l1 : Tree = poured a u l in
        let r1 : Tree = poured y e r in
        let f1 : ℕ = excess y e r in
        let w1 : ℕ = filled o w f1 in
        let g : ℕ = excess b v r1 in
        let h1 : ℕ = excess x g l1 in
        let g' : ℕ = excess b v r in
        let l2 : Tree = poured x g' l in
        let r2 : Tree = poured b v r in
        let h2 : ℕ = excess x g' l in
        let w2 : ℕ = filled o w h2 in
        let e' : ℕ = excess a u l2 in
        let f2 : ℕ = excess y e' r2 in
        let t1 : poured a u top ≡ merge n o w1 c x y l1 r1 = poured_left a u n o w c x y l r ha in
        let t2 : poured b v (merge n o w1 c x y l1 r1) ≡ merge n o (filled o w1 h1) c x y (poured x g l1) (poured b v r1) = poured_right b v n o w1 c x y l1 r1 hb in
        let t3 : poured b v top ≡ merge n o w2 c x y l2 r2 = poured_right b v n o w c x y l r hb in
        let t4 : poured a u (merge n o w2 c x y l2 r2) ≡ merge n o (filled o w2 f2) c x y (poured a u l2) (poured y e' r2) = poured_left a u n o w2 c x y l2 r2 ha in
        let ws : filled o w1 h1 ≡ filled o w2 f2 = filled_twice o w f1 h1 ∙ ap (λ (k : ℕ). filled o w k) m3 ∙ sym (filled_twice o w h2 f2) in
        let x1 : excess a u top ≡ f1 - (o - w) = excess_left a u n o w c x y l r ha in
        let x2 : excess b v (merge n o w1 c x y l1 r1) ≡ h1 - (o - w1) = excess_right b v n o w1 c x y l1 r1 hb in
        let x3 : excess b v top ≡ h2 - (o - w) = excess_right b v n o w c x y l r hb in
        let x4 : excess a u (merge n o w2 c x y l2 r2) ≡ f2 - (o - w2) = excess_left a u n o w2 c x y l2 r2 ha in
        let y2 : excess b v (poured a u top) ≡ h1 - (o - w1) = ap (λ (t : Tree). excess b v t) t1 ∙ x2 in
        let y4 : excess a u (poured b v top) ≡ f2 - (o - w2) = ap (λ (t : Tree). excess a u t) t3 ∙ x4 in (
          cc,
          ap₂ (λ (i j : ℕ). i + j) x1 y2 ∙ left_over_twice o w f1 h1 ∙ ap (λ (k : ℕ). k - (o - w)) m3
              ∙ sym (left_over_twice o w h2 f2) ∙ sym (ap₂ (λ (i j : ℕ). i + j) x3 y4),
        )

    swap_at : (a u b v : ℕ) → Exchange a u b v
    swap_at a u b v = ⊎_elim
        (λ ha. ⊎_elim
        (λ hb. swap_both a u b v y l r leftward refl (to_left a ha) (to_left b hb) hl hr)
        (λ hb. swap_across a u b v ha hb)
        (cases_lt b c))
        (λ ha. ⊎_elim
        (λ hb. let p = swap_across b v a u hb ha in (sym p.0, sym p.1))
        (λ hb. swap_both a u b v x r l rightward refl (to_right a ha) (to_right b hb) hr hl)
        (cases_lt b c))
        (cases_lt a c)

    merge_obeys : Obeys top
    merge_obeys = record {
      none = λ a. (none_at a).0;
      none_out = λ a. (none_at a).1;
      more = λ a u v. (more_at a u v).0;
      more_out = λ a u v. (more_at a u v).1;
      brim = λ a b u v e. (brim_at a u e).tree b v;
      brim_out = λ a b u v e. (brim_at a u e).out b v;
      swap = λ a b u v. (swap_at a u b v).0;
      swap_out = λ a b u v. (swap_at a u b v).1;
    }

basin_obeys : (n o w : ℕ) → Obeys (basin n o w)
unfolding poured excess
basin_obeys n o w = record {
  none = λ a. ap (λ (k : ℕ). basin n o k) (filled_none o w 0 refl);
  none_out = λ a. omega arith;
  more = λ a u v. ap (λ (k : ℕ). basin n o k) (filled_twice o w u v);
  more_out = λ a u v. left_over_twice o w u v;
  brim = λ a b u v e. ap (λ (k : ℕ). basin n o k) (at_brim u v e);
  brim_out = λ a b u v e. past_brim u v e;
  swap = λ a b u v. ap (λ (k : ℕ). basin n o k) (filled_twice o w u v ∙ ap (λ (k : ℕ). filled o w k) (turned u v) ∙ sym (filled_twice o w v u));
  swap_out = λ a b u v. left_over_twice o w u v ∙ ap (λ (k : ℕ). k - (o - w)) (turned u v) ∙ sym (left_over_twice o w v u);
}
  where
    turned : (u v : ℕ) → u + v ≡ v + u
    turned u v = omega arith

    at_brim : (u v : ℕ) → 0 < u - (o - w) → filled o (filled o w u) v ≡ filled o w u
    at_brim u v e = omega arith

    past_brim : (u v : ℕ) → 0 < u - (o - w) → v - (o - filled o w u) ≡ v
    past_brim u v e = omega arith

outlet_obeys : (n w : ℕ) → Obeys (outlet n w)
unfolding poured excess
outlet_obeys n w = record {
  none = λ a. ap (λ (k : ℕ). outlet n k) (add_none w);
  none_out = λ a. refl;
  more = λ a u v. ap (λ (k : ℕ). outlet n k) (add_both w u v);
  more_out = λ a u v. refl;
  brim = λ a b u v e. absurd (never e);
  brim_out = λ a b u v e. absurd (never e);
  swap = λ a b u v. ap (λ (k : ℕ). outlet n k) (add_swap w u v);
  swap_out = λ a b u v. refl;
}
  where
    add_none : (w : ℕ) → w + 0 ≡ w
    add_none w = omega arith

    add_both : (w u v : ℕ) → w + u + v ≡ w + (u + v)
    add_both w u v = omega arith

    add_swap : (w u v : ℕ) → w + u + v ≡ w + v + u
    add_swap w u v = omega arith

    never : 0 < 0 → ⊥
    never e = omega arith

-- Every tree obeys the four laws.
pub obeys : (t : Tree) → Obeys t
obeys (basin n o w) = basin_obeys n o w
obeys (outlet n w) = outlet_obeys n w
obeys (merge n o w c x y l r) = merge_obeys n o c x y w l r (obeys l) (obeys r)

-- Where nothing leaves the side that has the leaf, nothing else changes.
pub quiet : (a v y o w : ℕ) (s z : Tree) (mk : ℕ → Tree → Tree → Tree) → Leads a y o mk → excess a v s ≡ 0
    → (poured a v (mk w s z) ≡ mk w (poured a v s) z) × (excess a v (mk w s z) ≡ 0)
quiet a v y o w s z mk ha e =
    let q = (obeys z).none y in
    let q2 = (obeys z).none_out y in
    let f : excess y (excess a v s) z ≡ 0 = cc in
    let g : poured y (excess a v s) z ≡ z = cc in
    let ws : filled o w (excess y (excess a v s) z) ≡ w = filled_none o w (excess y (excess a v s) z) f in
    let p = ha.tree v w s z in
    let k = ha.out v w s z in
    (cc, omega arith)
