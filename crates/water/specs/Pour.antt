-- Pouring litres into a tree at a leaf, all at once.
use Rattle.std.specs.Prelude.{ℕ, ◌+◌, ◌-◌, min, cond, nat_lt}
use Rattle.water.specs.Tree.{Tree, basin, outlet, merge}

-- What leaves a tree when v litres fall at leaf a: the side that has the leaf takes its part first, then the
-- other side from its landing on, then the merge itself. The outlet lets nothing pass.
unfoldable pub excess : (a v : ℕ) → Tree → ℕ
excess a v (basin n o w) = v - (o - w)
excess a v (outlet n w) = 0
excess a v (merge n o w c x y l r) =
    cond (nat_lt a c) (excess y (excess a v l) r) (excess x (excess a v r) l) - (o - w)

-- The tree after v litres fell at leaf a.
unfoldable pub poured : (a v : ℕ) → Tree → Tree
poured a v (basin n o w) = basin n o (w + min v (o - w))
poured a v (outlet n w) = outlet n (w + v)
poured a v (merge n o w c x y l r) =
    cond (nat_lt a c)
    (merge n o (w + min (excess y (excess a v l) r) (o - w)) c x y (poured a v l) (poured y (excess a v l) r))
    (merge n o (w + min (excess x (excess a v r) l) (o - w)) c x y (poured x (excess a v r) l) (poured a v r))
