use Rattle.std.proofs.Common.{refl}
use Rattle.water.specs.Tree.{outlet}
use Rattle.site.proofs.Fresh.{outlet_formed}
use Rattle.site.proofs.OneTree.{held, one_state}
use Rattle.site.proofs.Sounds.{dry_holds}
use Rattle.site.proofs.site.Site.fresh.Goals as goal

pub invariant_of-result : goal.invariant_of-result
invariant_of-result c =
    held (dry_holds c.lone_outlet.result (outlet 0 0) c.lone_outlet.ensures outlet_formed refl)

pub returns-clause-state : goal.returns-clause-state
returns-clause-state c =
    one_state (dry_holds c.lone_outlet.result (outlet 0 0) c.lone_outlet.ensures outlet_formed refl)

pub returns-clause-stands : goal.returns-clause-stands
returns-clause-stands c =
    let h = held (dry_holds c.lone_outlet.result (outlet 0 0) c.lone_outlet.ensures outlet_formed refl) in
    h.stands
