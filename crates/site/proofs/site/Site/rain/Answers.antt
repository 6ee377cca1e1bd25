use Rattle.std.proofs.Common.{sym, subst, arith}
use Rattle.questions.proofs.Asked.{answer_in_words, refused_with}
use Rattle.water.specs.Calls.{Rained, rain_questions}
use Rattle.water.proofs.Calling.{rained}
use Rattle.water.proofs.Answered.{leaf_there, rain_counted, rain_no_leaf, rain_past_limit}
use Rattle.site.proofs.OneTree.{held, held_is, one_state}
use Rattle.site.proofs.Raining.{rained_holds}
use Rattle.site.proofs.Whole.{site_rooted}
use Rattle.site.proofs.site.Site.rain.Goals as goal

pub returns-in_err-at-clause-first_no : goal.returns-in_err-at-clause-first_no
returns-in_err-at-clause-first_no c =
    let a = c.args.leaf in
    let v = c.args.litres in
    let s = c.args.self.now in
    answer_in_words (rain_questions a v s) _ tt
    (rain_no_leaf a v s c.in_err-at.field-0.0 c.from_residual.result c.in_err-at.ensures (refused_with c.from_residual.ensures.1))

pub returns-in_err-accepted-clause-first_no : goal.returns-in_err-accepted-clause-first_no
returns-in_err-accepted-clause-first_no c =
    let a = c.args.leaf in
    let v = c.args.litres in
    let s = c.args.self.now in
    let h = held_is c.self.invariant c.self.view_is in
    answer_in_words (rain_questions a v s) _ tt
    (rain_past_limit a v s c.in_ok-at.at c.self.inside.accepted c.in_ok-at.ensures h.accepted
    c.in_err-accepted.field-0.0 c.from_residual-in_err-accepted.result c.in_err-accepted.ensures (refused_with c.from_residual-in_err-accepted.ensures.1))

pub pour-requires-clause-rooted : goal.pour-requires-clause-rooted
pour-requires-clause-rooted c =
    let v = c.args.litres in
    let h = held_is c.self.invariant c.self.view_is in
    let within = (rain_counted v c.self.inside.accepted c.in_ok-accepted.accepted c.in_ok-accepted.ensures).1 in
    site_rooted h c.top-top.ensures v.0 (omega (arith, h.accepted, within))

pub invariant_of-self : goal.invariant_of-self
invariant_of-self c =
    let h = held_is c.self.invariant c.self.view_is in
    held
    (rained_holds c.args.leaf c.args.litres _ h c.in_ok-at.ensures c.in_ok-accepted.ensures
    c.top-top.ensures c.pour.ensures.water c.pour.ensures.count)

pub returns-clause-water : goal.returns-clause-water
returns-clause-water c = λ _.
    let h = held_is c.self.invariant c.self.view_is in
    one_state
    (rained_holds c.args.leaf c.args.litres _ h c.in_ok-at.ensures c.in_ok-accepted.ensures
    c.top-top.ensures c.pour.ensures.water c.pour.ensures.count)

pub returns-clause-rained : goal.returns-clause-rained
returns-clause-rained c = λ _.
    let a = c.args.leaf in
    let v = c.args.litres in
    let s = c.args.self.now in
    let h = held_is c.self.invariant c.self.view_is in
    let u = rained_holds a v s h c.in_ok-at.ensures c.in_ok-accepted.ensures c.top-top.ensures c.pour.ensures.water c.pour.ensures.count in
    subst (Rained a.0 v.0 s) (sym (one_state u))
    (rained a v s h.stands (leaf_there a s c.in_ok-at.at c.in_ok-at.ensures) u.stands.limit)
