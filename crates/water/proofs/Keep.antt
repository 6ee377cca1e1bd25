-- What pouring keeps: all the water, full trees, and water as it may stand.
use Rattle.std.proofs.Common.{◌≡◌, ℕ, ◌+◌, ◌-◌, ◌<◌, ◌≤◌, true, ◌&&◌, eqb, ◌⊎◌, sym, ap, ◌∙◌, subst, ap₂, inl, inr, ⊎_elim, arith}
use Rattle.std.proofs.lemmas.Bool.{cases_lt, and_parts, and_from, eqb-true, eq-eqb, false≢true}
use Rattle.water.specs.Tree.{Tree, basin, outlet, merge, full}
use Rattle.water.specs.Sound.{Within, Sound}
use Rattle.water.specs.Pour.{poured, excess}
use Rattle.water.specs.Water.{held}
use Rattle.water.proofs.Steps.{filled, excess_basin, excess_outlet, excess_left, excess_right, poured_basin, poured_outlet, poured_left, poured_right}
use Rattle.water.proofs.Order.{obeys, Shut, shut_top}
use Rattle.water.proofs.Shape.{shape_kept, formed_same}

balance_merge : (hl hr w o v e f kl kr : ℕ) → kl + e ≡ hl + v → kr + f ≡ hr + e
    → kl + kr + filled o w f + (f - (o - w)) ≡ hl + hr + w + v
balance_merge hl hr w o v e f kl kr p q = omega arith

pub balance : (a v : ℕ) (t : Tree) → held (poured a v t) + excess a v t ≡ held t + v
unfolding poured excess
balance a v (basin n o w) = omega arith
balance a v (outlet n w) = omega arith
balance a v (merge n o w c x y l r) = ⊎_elim
    (λ h. ap₂ (λ (i : Tree) (j : ℕ). held i + j) (poured_left a v n o w c x y l r h) (excess_left a v n o w c x y l r h)
    ∙ balance_merge (held l) (held r) w o v (excess a v l) (excess y (excess a v l) r) (held (poured a v l)) (held (poured y (excess a v l) r))
    (balance a v l) (balance y (excess a v l) r))
    (λ h. ap₂ (λ (i : Tree) (j : ℕ). held i + j) (poured_right a v n o w c x y l r h) (excess_right a v n o w c x y l r h)
    ∙ (let e = balance_merge (held r) (held l) w o v (excess a v r) (excess x (excess a v r) l) (held (poured a v r)) (held (poured x (excess a v r) l))
    (balance a v r) (balance x (excess a v r) l) in omega arith))
    (cases_lt a c)

-- A full merge has full sides and no room.
pub full_parts : (n o w c x y : ℕ) (l r : Tree) → full (merge n o w c x y l r) ≡ true → (full l ≡ true) × (full r ≡ true) × (w ≡ o)
full_parts n o w c x y l r h =
    let p = and_parts (full l) (full r && eqb w o) h in
    let q = and_parts (full r) (eqb w o) p.1 in
    (p.0, q.0, eqb-true w o q.1)

pub full_from : (n o w c x y : ℕ) (l r : Tree) → full l ≡ true → full r ≡ true → w ≡ o → full (merge n o w c x y l r) ≡ true
full_from n o w c x y l r p q e = and_from (full l) (full r && eqb w o) p (and_from (full r) (eqb w o) q (eq-eqb w o e))

basin_shut : (n o w : ℕ) → w ≡ o → Shut (basin n o w)
basin_shut n o w e = record {
  tree = λ b v. poured_basin b v n o w ∙ ap (λ (i : ℕ). basin n o i) (stays v);
  out = λ b v. excess_basin b v n o w ∙ passes v;
}
  where
    stays : (v : ℕ) → filled o w v ≡ w
    stays v = omega arith

    passes : (v : ℕ) → v - (o - w) ≡ v
    passes v = omega arith

full_shut : (t : Tree) → full t ≡ true → Shut t
full_shut (basin n o w) h = basin_shut n o w (eqb-true w o h)
full_shut (outlet n w) h = absurd (false≢true h)
full_shut (merge n o w c x y l r) h =
    let p = full_parts n o w c x y l r h in
    let e = p.2 in
    shut_top n o c x y w l r (full_shut l p.0) (full_shut r p.1) (omega arith)

pub full_passes : (a v : ℕ) (t : Tree) → full t ≡ true → (poured a v t ≡ t) × (excess a v t ≡ v)
full_passes a v t h = let s = full_shut t h in (s.tree a v, s.out a v)

-- Some litre passes only where some litre came.
pub came : (a v : ℕ) (t : Tree) → 0 < excess a v t → 0 < v
came a v t h = ⊎_elim (λ (p : 0 < v). p)
    (λ (p : v ≤ 0).
    let v0 : v ≡ 0 = omega arith in
    let e : excess a v t ≡ excess a 0 t = ap (λ (k : ℕ). excess a k t) v0 in
    let z = (obeys t).none_out a in
    omega arith)
    (cases_lt 0 v)

over_step : (o w f : ℕ) → w ≤ o → 0 < f - (o - w) → (filled o w f ≡ o) × (0 < f)
over_step o w f p q = omega arith

pub overflow_fills : (a v : ℕ) (t : Tree) → Within t → 0 < excess a v t → full (poured a v t) ≡ true
overflow_fills a v (basin n o w) h e =
    let k = excess_basin a v n o w in
    let j : filled o w v ≡ o = omega arith in
    ap full (poured_basin a v n o w) ∙ eq-eqb (filled o w v) o j
overflow_fills a v (outlet n w) h e = let k = excess_outlet a v n w in absurd (omega arith)
overflow_fills a v (merge n o w c x y l r) h e =
    let l1 = overflow_fills a v l h.0 in
    let r1 = overflow_fills y (excess a v l) r h.1 in
    let r2 = overflow_fills a v r h.1 in
    let l2 = overflow_fills x (excess a v r) l h.0 in
    ⊎_elim
    (λ s.
    let k : 0 < excess y (excess a v l) r - (o - w) = subst (λ (i : ℕ). 0 < i) (excess_left a v n o w c x y l r s) e in
    let q = over_step o w (excess y (excess a v l) r) h.2 k in
    ap full (poured_left a v n o w c x y l r s)
    ∙ full_from n o (filled o w (excess y (excess a v l) r)) c x y (poured a v l) (poured y (excess a v l) r)
    (l1 (came y (excess a v l) r q.1)) (r1 q.1) q.0)
    (λ s.
    let k : 0 < excess x (excess a v r) l - (o - w) = subst (λ (i : ℕ). 0 < i) (excess_right a v n o w c x y l r s) e in
    let q = over_step o w (excess x (excess a v r) l) h.2 k in
    ap full (poured_right a v n o w c x y l r s)
    ∙ full_from n o (filled o w (excess x (excess a v r) l)) c x y (poured x (excess a v r) l) (poured a v r)
    (l2 q.1) (r2 (came x (excess a v r) l q.1)) q.0)
    (cases_lt a c)

-- A side that was full, or that let a litre pass, is full.
still_full : (a v : ℕ) (t : Tree) → Within t → (full t ≡ true) ⊎ (0 < excess a v t) → full (poured a v t) ≡ true
still_full a v t h = ⊎_elim (λ (f : full t ≡ true). ap full (full_passes a v t f).0 ∙ f) (λ (e : 0 < excess a v t). overflow_fills a v t h e)

pub within_kept : (a v : ℕ) (t : Tree) → Within t → Within (poured a v t)
within_kept a v (basin n o w) h = subst Within (sym (poured_basin a v n o w)) (omega arith)
within_kept a v (outlet n w) h = subst Within (sym (poured_outlet a v n w)) tt
within_kept a v (merge n o w c x y l r) h =
    let l1 = within_kept a v l h.0 in
    let r1 = within_kept y (excess a v l) r h.1 in
    let l2 = within_kept x (excess a v r) l h.0 in
    let r2 = within_kept a v r h.1 in
    let wo = h.2 in
    ⊎_elim
    (λ s. subst Within (sym (poured_left a v n o w c x y l r s)) (
      l1,
      r1,
      omega arith,
      λ (p : 0 < filled o w (excess y (excess a v l) r)). ⊎_elim
          (λ (q : 0 < w). (still_full a v l h.0 (inl (h.3 q).0), still_full y (excess a v l) r h.1 (inl (h.3 q).1)))
          (λ (q : w ≤ 0).
          let f : 0 < excess y (excess a v l) r = omega arith in
          (still_full a v l h.0 (inr (came y (excess a v l) r f)), still_full y (excess a v l) r h.1 (inr f)))
          (cases_lt 0 w),
    ))
    (λ s. subst Within (sym (poured_right a v n o w c x y l r s)) (
      l2,
      r2,
      omega arith,
      λ (p : 0 < filled o w (excess x (excess a v r) l)). ⊎_elim
          (λ (q : 0 < w). (still_full x (excess a v r) l h.0 (inl (h.3 q).0), still_full a v r h.1 (inl (h.3 q).1)))
          (λ (q : w ≤ 0).
          let f : 0 < excess x (excess a v r) l = omega arith in
          (still_full x (excess a v r) l h.0 (inr f), still_full a v r h.1 (inr (came x (excess a v r) l f))))
          (cases_lt 0 w),
    ))
    (cases_lt a c)

pub sound_kept : (a v : ℕ) (t : Tree) → Sound t → Sound (poured a v t)
sound_kept a v t h = record { formed = formed_same t (poured a v t) (sym (shape_kept a v t)) h.formed; within = within_kept a v t h.within }
