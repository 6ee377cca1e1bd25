-- The lone outlet is a site's tree.
use Rattle.std.proofs.Common.{refl, arith}
use Rattle.water.specs.Tree.{outlet}
use Rattle.water.specs.Formed.{Formed}

pub outlet_formed : Formed (outlet 0 0)
outlet_formed = record { numbered = refl; shaped = tt; outlet = refl; few = omega arith }
