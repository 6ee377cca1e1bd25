-- What the calls on a site leave and answer.
use Rattle.std.proofs.Common.{◌≡◌, ℕ, ◌+◌, ◌^◌, ◌≤◌, true, refl, arith}
use Rattle.water.specs.Tree.{has_leaf}
use Rattle.water.specs.Pour.{excess, poured}
use Rattle.water.specs.Level.{level}
use Rattle.water.specs.State.{State, Standing}
use Rattle.water.specs.Calls.{LevelIs, Rained, rained_on}
use Rattle.water.specs.declared.units.Leaf.{Leaf}
use Rattle.water.specs.declared.units.Litres.{Litres}
use Rattle.water.proofs.Keep.{balance, sound_kept}
use Rattle.water.proofs.Levels.{level_is_lem, outlet_level}
use Rattle.water.proofs.Room.{formed_open, open_excess}
use Rattle.water.proofs.Shape.{shape_kept}
use Rattle.water.proofs.Walk.{rain_is, rain_from}

-- Every litre of rain stays on the site, so the sums go on balancing.
pub rained_stands : (a : Leaf) (v : Litres) (s : State) → Standing s → s.accepted + v.0 ≤ 2 ^ 60 → Standing (rained_on a v s)
rained_stands a v s h most =
    let none : excess a.0 v.0 s.tree ≡ 0 = open_excess a.0 v.0 s.tree (formed_open s.tree h.sound.formed) in
    record {
      sound = sound_kept a.0 v.0 s.tree h.sound;
      balance = omega (arith, balance a.0 v.0 s.tree, h.balance);
      limit = most;
    }

pub rained : (a : Leaf) (v : Litres) (s : State) → Standing s → has_leaf a.0 s.tree ≡ true → s.accepted + v.0 ≤ 2 ^ 60 →
    Rained a.0 v.0 s (rained_on a v s)
rained a v s h leaf most =
    record {
      falls = rain_from a.0 v.0 s.tree (poured a.0 v.0 s.tree) h.sound leaf refl;
      only = λ z r. rain_is a.0 v.0 s.tree z h.sound leaf r;
      shape = shape_kept a.0 v.0 s.tree;
      accepted = refl;
      pumped = refl;
      stands = rained_stands a v s h most;
    }

pub level_over_lem : (a : ℕ) (s : State) → Standing s → LevelIs a s.tree (level a s.tree)
level_over_lem a s h =
    record {
      basin = level_is_lem a 0 s.tree h.sound.formed.numbered;
      outlet = λ e. (outlet_level a 0 s.tree h.sound.formed.numbered e).0;
    }
