-- All that is told of a terrain file.
use Rattle.std.specs.Prelude.{ℕ, List, length, Some, None, Option}
use Rattle.questions.specs.Ask.{first_no}
use Rattle.terrain.specs.Trailer.{name_of, note_length, tail_of}
use Rattle.terrain.specs.declared.refusal.Refusal.{Refusal}
use Rattle.water.specs.Tree.{height, volume}
use Rattle.site.specs.Questions.{questions}
use Rattle.site.specs.Records.{records}
use Rattle.site.specs.Spell.{format_in, tree_in}
use Rattle.report.specs.RefusalLines.{refusal_text}
use Rattle.report.specs.SiteLines.{site_text}

-- What an accepted file holds.
abbrev pub accepted_text : List ℕ → List ℕ
accepted_text file =
    site_text (name_of (tail_of file)) (note_length (format_in file) (length file) (tail_of file)) (records (tree_in file)) (volume (tree_in file)) (height (tree_in file))

-- The text that the answer of loading leads to.
abbrev pub text_for : Option Refusal → List ℕ → List ℕ
text_for None file = accepted_text file
text_for (Some refusal) file = refusal_text refusal

-- The first question answered no, or what the file holds where there is none.
unfoldable pub file_text : List ℕ → List ℕ
file_text file = text_for (first_no (questions file)) file
