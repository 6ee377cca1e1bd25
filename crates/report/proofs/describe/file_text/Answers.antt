use Rattle.std.proofs.Common.{string_bytes, sym}
use Rattle.questions.proofs.Texts.{made_as}
use Rattle.report.proofs.Told.{told_accepted, told_refused}
use Rattle.report.proofs.describe.file_text.Goals as goal

pub returns-in-Ok : goal.returns-in-Ok
returns-in-Ok c =
    made_as string_bytes c.in-Ok.text (told_accepted c.args.file.now (sym c.in-Ok.ensures.refusal)) c.in-Ok.ensures.text

pub returns-in-Err : goal.returns-in-Err
returns-in-Err c =
    made_as string_bytes c.to_string.result (told_refused c.args.file.now c.in-Err.refusal (sym c.in-Err.ensures.refusal)) c.to_string.ensures.ok
