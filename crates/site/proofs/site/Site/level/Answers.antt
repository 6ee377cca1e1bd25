use Rattle.std.proofs.Common.{ℕ, sym, ap, ◌∙◌, subst, arith}
use Rattle.questions.proofs.Asked.{answer_in_words, refused_with}
use Rattle.water.specs.Calls.{LevelIs, level_questions}
use Rattle.water.specs.Level.{level}
use Rattle.water.specs.State.{litres}
use Rattle.water.proofs.Calling.{level_over_lem}
use Rattle.water.proofs.Answered.{leaf_at, level_no_leaf, level_told}
use Rattle.site.specs.declared.node.Survey.{Survey}
use Rattle.site.proofs.OneTree.{held_is}
use Rattle.site.proofs.Whole.{site_rooted, site_seen}
use Rattle.site.proofs.site.Site.level.Goals as goal

pub returns-in_err-place-clause-first_no : goal.returns-in_err-place-clause-first_no
returns-in_err-place-clause-first_no c =
    let a = c.args.leaf in
    let s = c.args.self.now in
    answer_in_words (level_questions a s) _ (litres (level a.0 s.tree))
    (level_no_leaf a s c.in_err-place.field-0.0 c.from_residual.result c.in_err-place.ensures (refused_with c.from_residual.ensures.1))

pub survey-seen-requires-clause-rooted : goal.survey-seen-requires-clause-rooted
survey-seen-requires-clause-rooted c =
    let h = held_is c.self.invariant c.self.view_is in
    site_rooted h c.top.ensures 0 (omega (arith, h.stands.limit))

pub returns-clause-answer : goal.returns-clause-answer
returns-clause-answer c =
    let h = held_is c.self.invariant c.self.view_is in
    let at = c.in_ok-place.place in
    level_told c.args.leaf c.args.self.now at (litres c.survey-seen.result.level) c.in_ok-place.ensures
    (ap (λ (x : Survey). x.level) (site_seen h c.top.ensures at c.survey-seen.ensures))

pub returns-clause-pool : goal.returns-clause-pool
returns-clause-pool c =
    let a = c.args.leaf in
    let s = c.args.self.now in
    let h = held_is c.self.invariant c.self.view_is in
    let at = c.in_ok-place.place in
    let seen = ap (λ (x : Survey). x.level) (site_seen h c.top.ensures at c.survey-seen.ensures) in
    subst (LevelIs a.0 s.tree) (sym (seen ∙ ap (λ (k : ℕ). level k s.tree) (leaf_at a s at c.in_ok-place.ensures)))
    (level_over_lem a.0 s h.stands)
