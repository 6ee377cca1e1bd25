use Rattle.std.proofs.Common.{[], Option, sym, ap}
use Rattle.questions.specs.Ask.{verdict}
use Rattle.questions.proofs.Asked.{passed, stopped}
use Rattle.water.specs.Tree.{has_leaf}
use Rattle.water.specs.declared.refusal.Refusal.{Refusal}
use Rattle.water.specs.declared.refusal.Refusal.TheVariants.{NoLeaf}
use Rattle.site.proofs.OneTree.{held_is}
use Rattle.site.proofs.Whole.{leaf_said}
use Rattle.site.proofs.site.Site.leaf_place.Goals as goal

pub returns-then-not-has_leaf : goal.returns-then-not-has_leaf
returns-then-not-has_leaf c =
    let a = c.args.leaf in
    let h = held_is c.self.invariant c.self.view_is in
    let e = leaf_said h a.0 c.count-count.ensures c.has_leaf.ensures c.if-not-has_leaf.true in
    ap (λ (o : Option Refusal). verdict o a.0) (sym (stopped (has_leaf a.0 c.args.self.now.tree) (NoLeaf a) [] e))

pub returns : goal.returns
returns c =
    let a = c.args.leaf in
    let h = held_is c.self.invariant c.self.view_is in
    let e = leaf_said h a.0 c.count-count.ensures c.has_leaf.ensures c.if-not-has_leaf.false in
    ap (λ (o : Option Refusal). verdict o a.0) (sym (passed (has_leaf a.0 c.args.self.now.tree) (NoLeaf a) [] e))
