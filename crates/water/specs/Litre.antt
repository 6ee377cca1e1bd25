-- The walk of one litre, and rain as so many litres one after another.
use Rattle.std.specs.Prelude.{◌≡◌, ℕ, zero, suc, ◌+◌, true, false, cond, ◌==◌}
use Rattle.water.specs.Tree.{Tree, basin, outlet, merge, full, has_leaf}
use Rattle.water.specs.Sound.{Sound}
use Rattle.water.specs.Pour.{poured}
use Rattle.water.specs.Parts.{number, Part, Side}

-- A litre that stands at record n of t comes to rest in record k.
pub data Rests (t : Tree) (k : ℕ) : ℕ → Type 0 where
  -- It rests where the record is not full.
  rest : (n : ℕ) (s : Tree) → Part t s → n ≡ number s → full s ≡ false → k ≡ n → Rests t k n
  -- From a full record it crosses to the landing in the other side, if that side is not full.
  cross : (n j : ℕ) (s p z : Tree) → Part t s → n ≡ number s → full s ≡ true
      → Part t p → Side p n j z → full z ≡ false → Rests t k j → Rests t k n
  -- From a full record beside a full side it climbs to the merge above.
  climb : (n j : ℕ) (s p z : Tree) → Part t s → n ≡ number s → full s ≡ true
      → Part t p → Side p n j z → full z ≡ true → Rests t k (number p) → Rests t k n

-- The tree with one litre more in record k.
abbrev pub grown : ℕ → Tree → Tree
grown k (basin n o w) = basin n o (cond (k == n) (w + 1) w)
grown k (outlet n w) = outlet n (cond (k == n) (w + 1) w)
grown k (merge n o w c x y l r) = merge n o (cond (k == n) (w + 1) w) c x y (grown k l) (grown k r)

-- One litre that falls at leaf a turns t into u.
pub record Litre (a : ℕ) (t u : Tree) : Type 0 where
  pub place : ℕ
  pub rests : Rests t place a
  pub grows : u ≡ grown place t

-- Rain of v litres at leaf a turns t into u: v litres, one after another.
abbrev pub Rain : (a v : ℕ) → Tree → Tree → Type 0
Rain a zero t u = u ≡ t
Rain a (suc v) t u = (s : Tree) × Litre a t s × Rain a v s u

-- A litre that falls on a site rests in exactly one record.
abbrev pub RestLaw : Type 0
RestLaw = (a : ℕ) (t : Tree) → Sound t → has_leaf a t ≡ true →
    (k : ℕ) × Rests t k a × ((j : ℕ) → Rests t j a → j ≡ k)

-- On a site, rain turns a tree into what pouring makes of it, and into nothing else.
abbrev pub LitreLaw : Type 0
LitreLaw = (a v : ℕ) (t u : Tree) → Sound t → has_leaf a t ≡ true →
    (Rain a v t u → u ≡ poured a v t) × (u ≡ poured a v t → Rain a v t u)
