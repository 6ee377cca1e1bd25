use Rattle.std.proofs.Common.{◌≡◌}
use Rattle.questions.specs.Ask.{first_no, verdict}
use Rattle.questions.proofs.Asked.{answer_in_words, refused_with}
use Rattle.site.specs.Loaded.{accepts}
use Rattle.site.specs.Questions.{questions}
use Rattle.site.proofs.Loads.{all_answered, read_held, refused, site_loaded, table_refused, trailer_refused}
use Rattle.site.proofs.site.Site.load.Goals as goal

pub returns-in_err-trailer-clause-answer : goal.returns-in_err-trailer-clause-answer
returns-in_err-trailer-clause-answer c =
    refused c.args.file.now (refused_with c.from_residual.ensures.1) (trailer_refused _ _ _ c.new-reader.ensures.file c.in_err-trailer.ensures.answer)

pub returns-in_err-trailer-clause-first_no : goal.returns-in_err-trailer-clause-first_no
returns-in_err-trailer-clause-first_no c =
    answer_in_words (questions c.args.file.now) _ tt
    (refused c.args.file.now (refused_with c.from_residual.ensures.1) (trailer_refused _ _ _ c.new-reader.ensures.file c.in_err-trailer.ensures.answer))

pub returns-in_err-read_table-clause-first_no : goal.returns-in_err-read_table-clause-first_no
returns-in_err-read_table-clause-first_no c =
    answer_in_words (questions c.args.file.now) _ tt
    (refused c.args.file.now (refused_with c.from_residual-in_err-read_table.ensures.1) (table_refused _ _ c.in_err-read_table.ensures))

pub invariant_of-self : goal.invariant_of-self
invariant_of-self c = read_held c.args.file.now _ c.in_ok-read_table.ensures

pub returns-clause-first_no : goal.returns-clause-first_no
returns-clause-first_no c =
    let file = c.args.file.now in
    let all = all_answered file _ c.in_ok-read_table.ensures in
    let a : accepts ≡ verdict (first_no (questions file)) tt = cc in
    answer_in_words (questions file) accepts tt a

pub returns-clause-loaded : goal.returns-clause-loaded
returns-clause-loaded c = λ _. site_loaded c.args.file.now _ c.in_ok-read_table.ensures
