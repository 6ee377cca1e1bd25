-- The line that tells a reply.
use Rattle.std.specs.Prelude.{ℕ, List, [], ◌∷◌, ◌++◌, Ok, Err, codes, decimal, Result}
use Rattle.questions.specs.Lines.{line}
use Rattle.water.specs.declared.units.Totals.{Totals as Sums}
use Rattle.console.specs.Case.{case_of}
use Rattle.console.specs.declared.refusal.Refusal.{Refusal}
use Rattle.console.specs.declared.reply.Answer.{Answer}
use Rattle.console.specs.declared.reply.Answer.TheVariants.{Done, Level, Totals}

-- The totals are told as accepted rain, outflow and pumped litres.
abbrev pub totals_text : Sums → List ℕ
totals_text t =
    decimal t.accepted.0 ++ (codes " " ++ (decimal t.outflow.0 ++ (codes " " ++ decimal t.pumped.0)))

-- Accepted rain is told by `ok`, the level and the totals by their litres.
abbrev pub answer_text : Answer → List ℕ
answer_text Done = codes "ok"
answer_text (Level litres) = decimal litres.0
answer_text (Totals totals) = totals_text totals

-- A refusal is told by its number.
abbrev pub refusal_text : Refusal → List ℕ
refusal_text refusal = codes "no " ++ decimal (case_of refusal).number

-- A reply is told in one line.
abbrev pub reply_bytes : Result Answer Refusal → List ℕ
reply_bytes (Ok answer) = line (answer_text answer ∷ [])
reply_bytes (Err refusal) = line (refusal_text refusal ∷ [])
