-- Trees without water.
use Rattle.std.proofs.Common.{◌≡◌, sym, refl, ap, ◌∙◌, subst, ap₂, arith}
use Rattle.water.specs.Tree.{Tree, basin, outlet, merge, dried}
use Rattle.water.specs.Formed.{Formed}
use Rattle.water.specs.Sound.{Within, Sound}
use Rattle.water.specs.Water.{held}
use Rattle.water.specs.State.{Standing, untouched}
use Rattle.water.proofs.Shape.{formed_same}

dried_twice : (t : Tree) → dried (dried t) ≡ dried t
dried_twice (basin n o w) = refl
dried_twice (outlet n w) = refl
dried_twice (merge n o w c x y l r) = ap₂ (λ (i j : Tree). merge n o 0 c x y i j) (dried_twice l) (dried_twice r)

pub within_dried : (t : Tree) → Within (dried t)
within_dried (basin n o w) = omega arith
within_dried (outlet n w) = tt
within_dried (merge n o w c x y l r) = (within_dried l, within_dried r, omega arith, λ h. absurd (omega arith))

pub sound_dried : (t : Tree) → Sound t → Sound (dried t)
sound_dried t h =
    record { formed = formed_same t (dried t) (sym (dried_twice t)) h.formed; within = within_dried t }

held_dried : (t : Tree) → held (dried t) ≡ 0
held_dried (basin n o w) = refl
held_dried (outlet n w) = refl
held_dried (merge n o w c x y l r) = omega (arith, held_dried l, held_dried r)

-- A formed dry tree to which no call has been made is what a site can be in.
pub dry_stands : (t : Tree) → Formed t → dried t ≡ t → Standing (untouched t)
dry_stands t f d =
    record {
      sound = record { formed = f; within = subst Within d (within_dried t) };
      balance = omega (arith, sym (ap held d) ∙ held_dried t);
      limit = omega arith;
    }
