use Rattle.std.proofs.Common.{◌∙◌}
use Rattle.site.proofs.Holding.{used}
use Rattle.site.proofs.OneTree.{held_is, one_tree}
use Rattle.site.proofs.site.Site.records.Goals as goal

pub returns : goal.returns
returns c =
    let h = held_is c.self.invariant c.self.view_is in
    let u = used h c.used.ensures in
    record { answer = u; only = λ t n e. one_tree t c.args.self.now.tree n h.stands.sound.formed.numbered (e ∙ u) }
