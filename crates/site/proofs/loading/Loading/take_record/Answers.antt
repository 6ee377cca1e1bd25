use Rattle.std.proofs.Common.{rules, sym, subst}
use Rattle.questions.proofs.Asked.{refused_with}
use Rattle.site.specs.Fill.{Filled}
use Rattle.site.proofs.Taken.{refused_record, taken}
use Rattle.site.proofs.loading.Loading.take_record.Goals as goal

pub returns-in_err-said-clause-done : goal.returns-in_err-said-clause-done
returns-in_err-said-clause-done g c =
    subst (Filled _ _ _ _ _) (sym (refused_with c.from_residual.ensures.1))
    (refused_record _ _ _ c.requires.more c.requires.reached _ _ c.record.ensures.answer c.in_err-said.ensures)

pub returns-clause-done : goal.returns-clause-done
returns-clause-done g c = search (rules, taken)
