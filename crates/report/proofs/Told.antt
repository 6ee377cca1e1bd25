-- Which text a file's questions lead to.
use Rattle.std.proofs.Common.{◌≡◌, ℕ, List, Some, None, Option, sym, ap}
use Rattle.questions.specs.Ask.{first_no}
use Rattle.terrain.specs.declared.refusal.Refusal.{Refusal}
use Rattle.site.specs.Questions.{questions}
use Rattle.report.specs.FileText.{accepted_text, file_text, text_for}
use Rattle.report.specs.RefusalLines.{refusal_text}

pub told_refused : (file : List ℕ) (x : Refusal) → first_no (questions file) ≡ Some x → refusal_text x ≡ file_text file
unfolding file_text
told_refused file x h = ap (λ (o : Option Refusal). text_for o file) (sym h)

pub told_accepted : (file : List ℕ) → first_no (questions file) ≡ None → accepted_text file ≡ file_text file
unfolding file_text
told_accepted file h = ap (λ (o : Option Refusal). text_for o file) (sym h)
