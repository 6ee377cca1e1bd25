use Rattle.std.proofs.Common.{ap, ◌∙◌}
use Rattle.site.specs.Measures.{own_sum}
use Rattle.site.proofs.Holding.{used, used_own}
use Rattle.site.proofs.Measured.{volume_is}
use Rattle.site.proofs.OneTree.{held_is}
use Rattle.site.proofs.site.Site.volume.Goals as goal

pub total_volume-requires : goal.total_volume-requires
total_volume-requires c = used_own c.self.invariant c.used.ensures

pub returns : goal.returns
returns c =
    c.total_volume.ensures ∙ ap own_sum (used (held_is c.self.invariant c.self.view_is) c.used.ensures)
    ∙ volume_is c.args.self.now.tree
