-- What every refusal tells: its number, its layer, its place and what was found.
use Rattle.std.specs.Prelude.{ℕ, List, ◌++◌, codes, decimal}
use Rattle.questions.specs.declared.layer.Layer.{Layer}
use Rattle.questions.specs.declared.layer.Layer.TheVariants.{Trailer, Record, Tree, Water, Line}

-- What a refusal tells.
pub record Case : Type 0 where
  pub number : ℕ
  pub layer : Layer
  pub place : ℕ
  pub found : List ℕ

-- A case from its parts.
abbrev pub case : ℕ → Layer → ℕ → List ℕ → Case
case n l p f = record { number = n; layer = l; place = p; found = f }

-- A layer in small letters.
abbrev pub layer_name : Layer → List ℕ
layer_name Trailer = codes "trailer"
layer_name Record = codes "record"
layer_name Tree = codes "tree"
layer_name Water = codes "water"
layer_name Line = codes "line"

-- What a refusal tells, in words: its number, its layer and its place.
abbrev pub told_text : ℕ → Layer → ℕ → List ℕ
told_text n l p = codes "no " ++ decimal n ++ codes " " ++ layer_name l ++ codes " " ++ decimal p
