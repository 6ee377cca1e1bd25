-- One step of pouring, by the kind of record.
use Rattle.std.proofs.Common.{◌≡◌, ℕ, ◌+◌, ◌-◌, ◌<◌, ◌≤◌, min, ltb, refl, ap}
use Rattle.std.proofs.lemmas.Bool.{lt-ltb, le-ltb, cond-true, cond-false}
use Rattle.water.specs.Tree.{Tree, basin, outlet, merge}
use Rattle.water.specs.Pour.{poured, excess}

-- The water of a record with own volume o and water w to which v litres come.
abbrev pub filled : (o w v : ℕ) → ℕ
filled o w v = w + min v (o - w)

pub excess_basin : (a v n o w : ℕ) → excess a v (basin n o w) ≡ v - (o - w)
unfolding excess
excess_basin a v n o w = refl

pub excess_outlet : (a v n w : ℕ) → excess a v (outlet n w) ≡ 0
unfolding excess
excess_outlet a v n w = refl

pub excess_left : (a v n o w c x y : ℕ) (l r : Tree) → a < c
    → excess a v (merge n o w c x y l r) ≡ excess y (excess a v l) r - (o - w)
unfolding excess
excess_left a v n o w c x y l r h =
    ap (λ (k : ℕ). k - (o - w)) (cond-true (ltb a c) (excess y (excess a v l) r) (excess x (excess a v r) l) (lt-ltb a c h))

pub excess_right : (a v n o w c x y : ℕ) (l r : Tree) → c ≤ a
    → excess a v (merge n o w c x y l r) ≡ excess x (excess a v r) l - (o - w)
unfolding excess
excess_right a v n o w c x y l r h =
    ap (λ (k : ℕ). k - (o - w)) (cond-false (ltb a c) (excess y (excess a v l) r) (excess x (excess a v r) l) (le-ltb a c h))

pub poured_basin : (a v n o w : ℕ) → poured a v (basin n o w) ≡ basin n o (filled o w v)
unfolding poured
poured_basin a v n o w = refl

pub poured_outlet : (a v n w : ℕ) → poured a v (outlet n w) ≡ outlet n (w + v)
unfolding poured
poured_outlet a v n w = refl

pub poured_left : (a v n o w c x y : ℕ) (l r : Tree) → a < c
    → poured a v (merge n o w c x y l r)
    ≡ merge n o (filled o w (excess y (excess a v l) r)) c x y (poured a v l) (poured y (excess a v l) r)
unfolding poured
poured_left a v n o w c x y l r h = cond-true (ltb a c)
    (merge n o (w + min (excess y (excess a v l) r) (o - w)) c x y (poured a v l) (poured y (excess a v l) r))
    (merge n o (w + min (excess x (excess a v r) l) (o - w)) c x y (poured x (excess a v r) l) (poured a v r))
    (lt-ltb a c h)

pub poured_right : (a v n o w c x y : ℕ) (l r : Tree) → c ≤ a
    → poured a v (merge n o w c x y l r)
    ≡ merge n o (filled o w (excess x (excess a v r) l)) c x y (poured x (excess a v r) l) (poured a v r)
unfolding poured
poured_right a v n o w c x y l r h = cond-false (ltb a c)
    (merge n o (w + min (excess y (excess a v l) r) (o - w)) c x y (poured a v l) (poured y (excess a v l) r))
    (merge n o (w + min (excess x (excess a v r) l) (o - w)) c x y (poured x (excess a v r) l) (poured a v r))
    (le-ltb a c h)
