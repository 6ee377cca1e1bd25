-- What each refusal of a call on water says: its number, its layer, its place and what was found.
use Rattle.std.specs.Prelude.{[], ◌∷◌}
use Rattle.questions.specs.Case.{Case, case}
use Rattle.questions.specs.declared.layer.Layer.TheVariants.{Water}
use Rattle.water.specs.declared.refusal.Refusal.{Refusal}
use Rattle.water.specs.declared.refusal.Refusal.TheVariants.{NoLeaf, RainLimit}

-- The one definition of every case.
abbrev pub case_of : Refusal → Case
case_of (NoLeaf leaf) = case 21 Water 0 (leaf.0 ∷ [])
case_of (RainLimit litres) = case 22 Water 0 (litres.0 ∷ [])
