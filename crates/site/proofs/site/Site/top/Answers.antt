use Rattle.std.proofs.Common.{arith}
use Rattle.site.proofs.Holding.{counted, held_some}
use Rattle.site.proofs.OneTree.{held_is}
use Rattle.site.proofs.site.Site.top.Goals as goal

pub overflow_sub-result : goal.overflow_sub-result
overflow_sub-result c = omega (arith, held_some c.self.invariant, c.count.ensures)

pub returns : goal.returns
returns c =
    let h = held_is c.self.invariant c.self.view_is in
    omega (arith, held_some h, counted h, c.count.ensures)
