use Rattle.std.proofs.Common.{List, [], ap, ◌∙◌}
use Rattle.site.specs.Measures.{heights, newest_height}
use Rattle.site.specs.declared.node.Node.{Node}
use Rattle.site.proofs.Holding.{used}
use Rattle.site.proofs.Measured.{heights_of}
use Rattle.site.proofs.OneTree.{held_is}
use Rattle.site.proofs.site.Site.height.Goals as goal

pub returns : goal.returns
returns c =
    let h = held_is c.self.invariant c.self.view_is in
    c.tree_height.ensures ∙ ap (λ (l : List Node). newest_height (heights l [])) (used h c.used.ensures)
    ∙ ap newest_height (heights_of c.args.self.now.tree [] h.stands.sound.formed.few)
