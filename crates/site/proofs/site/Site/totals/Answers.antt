use Rattle.std.proofs.Common.{ap, ◌∙◌, arith}
use Rattle.water.proofs.Room.{held_split}
use Rattle.site.specs.Measures.{drained_sum}
use Rattle.site.proofs.Holding.{used, used_drained}
use Rattle.site.proofs.Measured.{outflow_is_lem}
use Rattle.site.proofs.OneTree.{held_is}
use Rattle.site.proofs.site.Site.totals.Goals as goal

pub total_outflow-requires : goal.total_outflow-requires
total_outflow-requires c = used_drained c.self.invariant c.used.ensures

pub returns-clause-answer : goal.returns-clause-answer
returns-clause-answer c =
    let h = held_is c.self.invariant c.self.view_is in
    let out = c.total_outflow.ensures ∙ ap drained_sum (used h c.used.ensures) ∙ outflow_is_lem c.args.self.now.tree in
    let a = h.accepted in
    let p = h.pumped in
    cc

pub returns-clause-balance : goal.returns-clause-balance
returns-clause-balance c =
    let s = c.args.self.now in
    let h = held_is c.self.invariant c.self.view_is in
    let out = c.total_outflow.ensures ∙ ap drained_sum (used h c.used.ensures) ∙ outflow_is_lem s.tree in
    omega (arith, out, h.accepted, h.pumped, h.stands.balance, held_split s.tree h.stands.sound.formed.shaped h.stands.sound.within)
