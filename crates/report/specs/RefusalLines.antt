-- The text of a refusal.
use Rattle.std.specs.Prelude.{ℕ, List, [], ◌∷◌, ◌++◌}
use Rattle.questions.specs.Lines.{line}
use Rattle.terrain.specs.Words.{question_text}
use Rattle.questions.specs.Case.{Case, told_text}
use Rattle.terrain.specs.Case.{case_of}
use Rattle.terrain.specs.declared.refusal.Refusal.{Refusal}

-- The first line: the question's number, the layer that asks it, and the place.
abbrev pub place_line : Case → List ℕ
place_line c = line (told_text c.number c.layer c.place ∷ [])

-- The second line: the question in words, and each number found.
abbrev pub question_line : Refusal → List ℕ
question_line r = line (question_text r ∷ [])

-- Both lines of a refusal.
abbrev pub refusal_text : Refusal → List ℕ
refusal_text r = place_line (case_of r) ++ question_line r
