use Rattle.std.proofs.Common.{sym, ap, ◌∙◌}
use Rattle.questions.specs.Ask.{refusal_in}
use Rattle.questions.proofs.Asked.{refused_with}
use Rattle.site.proofs.Loads.{trailer_refused}
use Rattle.report.proofs.describe.accepted_text.Goals as goal

pub returns-in_err-trailer-clause-refusal : goal.returns-in_err-trailer-clause-refusal
returns-in_err-trailer-clause-refusal c =
    ap refusal_in (refused_with c.from_residual.ensures.1) ∙ sym (trailer_refused _ _ _ c.new.ensures.file c.in_err-trailer.ensures.answer)
