-- What a refusal of a call on water says in words.
use Rattle.std.specs.Prelude.{ℕ, List, ◌++◌, codes, decimal}
use Rattle.water.specs.declared.refusal.Refusal.{Refusal}
use Rattle.water.specs.declared.refusal.Refusal.TheVariants.{NoLeaf, RainLimit}

-- The question in words, and the number that was found.
abbrev pub question_text : Refusal → List ℕ
question_text (NoLeaf leaf) = codes "a leaf? found " ++ decimal leaf.0
question_text (RainLimit litres) = codes "accepted rain still at most 2^60 litres? found " ++ decimal litres.0
