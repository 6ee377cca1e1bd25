-- What a site is in at any time.
use Rattle.std.specs.Prelude.{◌≡◌, ℕ, ◌+◌, ◌^◌, ◌≤◌}
use Rattle.water.specs.Tree.{Tree}
use Rattle.water.specs.Sound.{Sound}
use Rattle.water.specs.Water.{held, outflow}
use Rattle.water.specs.declared.units.Litres.{Litres}
use Rattle.water.specs.declared.units.Totals.{Totals}

-- The tree with the water in it, the litres of all accepted rain, and the litres of all accepted pumping.
pub record State : Type 0 where
  pub tree : Tree
  pub accepted : ℕ
  pub pumped : ℕ

-- A tree to which no call has been made.
abbrev pub untouched : Tree → State
untouched t = record { tree = t; accepted = 0; pumped = 0 }

-- What holds on every site: the water stands as it may, every accepted litre is in the tree or was pumped, and
-- accepted rain is within its limit.
pub record Standing (s : State) : Type 0 where
  pub sound : Sound s.tree
  pub balance : held s.tree + s.pumped ≡ s.accepted
  pub limit : s.accepted ≤ 2 ^ 60

-- So many litres.
abbrev pub litres : ℕ → Litres
litres n = record { 0 = n }

-- What a site reports.
abbrev pub totals : State → Totals
totals s =
    record { accepted = litres s.accepted; outflow = litres (outflow s.tree); pumped = litres s.pumped }
