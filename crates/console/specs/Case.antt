-- What each refusal of a line or a file says: its number, its layer, its place and what was found.
use Rattle.std.specs.Prelude.{[]}
use Rattle.questions.specs.Case.{Case, case}
use Rattle.questions.specs.declared.layer.Layer.TheVariants.{Line}
use Rattle.terrain.specs.Case.{case_of as file_case}
use Rattle.water.specs.Case.{case_of as water_case}
use Rattle.console.specs.declared.refusal.Refusal.{Refusal}
use Rattle.console.specs.declared.refusal.Refusal.TheVariants.{NotWellFormed, Water, File}

-- The one definition of every case.
abbrev pub case_of : Refusal → Case
case_of NotWellFormed = case 31 Line 0 []
case_of (Water refusal) = water_case refusal
case_of (File refusal) = file_case refusal
