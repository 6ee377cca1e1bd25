-- Rain over a depression: a closed record with all that is below it.
use Rattle.std.specs.Prelude.{◌≡◌, ℕ, ◌+◌, ◌-◌, ◌≤◌, true, false}
use Rattle.water.specs.Tree.{Tree, volume, full, is_open, has_leaf}
use Rattle.water.specs.Sound.{Sound}
use Rattle.water.specs.Pour.{poured}
use Rattle.water.specs.Water.{held, water_at}
use Rattle.water.specs.Parts.{number, Part, Names, has_record}

-- The free volume of a depression.
abbrev pub free : Tree → ℕ
free s = volume s - held s

-- Rain of v litres at a stays in the depression s of t: no record outside it changes.
pub record Stays (a v : ℕ) (t s : Tree) : Type 0 where
  pub inside : Names (poured a v t) (number s) (poured a v s)
  pub outside : (k : ℕ) → has_record k s ≡ false → water_at k (poured a v t) ≡ water_at k t

-- Rain of v litres at a fills the depression s of t, and only the rest is outside: the water there grows by the
-- rest, and falls as if the rest had come when the depression was full.
pub record Spills (a v : ℕ) (t s : Tree) : Type 0 where
  pub inside : Names (poured a v t) (number s) (poured a (free s) s)
  pub brim : full (poured a (free s) s) ≡ true
  pub outside : held (poured a v t) - held (poured a (free s) s) ≡ (held t - held s) + (v - free s)
  pub rest : poured a v t ≡ poured a (v - free s) (poured a (free s) t)

-- Rain within the free volume of a depression stays in it; more leaves it full and only the rest outside.
abbrev pub DepressionLaw : Type 0
DepressionLaw = (a v : ℕ) (t s : Tree) → Sound t → Part t s → is_open s ≡ false → has_leaf a s ≡ true →
    (v ≤ free s → Stays a v t s) × (free s ≤ v → Spills a v t s)
