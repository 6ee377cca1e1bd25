-- A subtree in its place among the records of a table.
use Rattle.std.specs.Prelude.{◌≡◌, ℕ, ◌+◌, ◌-◌, ◌^◌, ◌<◌, ◌≤◌, List, ◌++◌, length}
use Rattle.water.specs.Tree.{Tree}
use Rattle.water.specs.Formed.{Numbered}
use Rattle.water.specs.Parts.{number}
use Rattle.water.specs.Pour.{excess, poured}
use Rattle.water.specs.Water.{held}
use Rattle.site.specs.Records.{records}
use Rattle.site.specs.Surveys.{survey_of}
use Rattle.site.specs.declared.node.Node.{Node}
use Rattle.site.specs.declared.node.Survey.{Survey}

-- The records of t stand between `before` and `after`, and the last of them, its top, is at `root`.
pub record Subtree (nodes : List Node) (root : ℕ) (before : List Node) (t : Tree) (after : List Node) : Type 0 where
  pub stands : nodes ≡ before ++ (records t ++ after)
  pub numbered : Numbered (length before) t
  pub top : root ≡ number t

-- At `root` is the top of some subtree whose water can be counted, and v litres more.
abbrev pub Rooted : List Node → (root v : ℕ) → Type 0
Rooted nodes root v =
    (before : List Node) × (t : Tree) × (after : List Node) × Subtree nodes root before t after × (held t + v < 2 ^ 64)

-- The tops of a merge's sides in the order in which water that falls at a leaf comes to them, and the landing in the
-- second. The right side ends before the merge at `root`, the left one before the right side's first record, `cut`.
pub record SidesFrom (leaf root cut left right first second landing : ℕ) : Type 0 where
  pub leftward : leaf < cut → (first ≡ cut - 1) × (second ≡ root - 1) × (landing ≡ right)
  pub rightward : cut ≤ leaf → (first ≡ root - 1) × (second ≡ cut - 1) × (landing ≡ left)

-- Pouring v litres at a leaf of the subtree at `root` turns `nodes` into `ns`, where `over` is what leaves the subtree.
pub record PouredAt (nodes : List Node) (root leaf v : ℕ) (ns : List Node) (over : ℕ) : Type 0 where
  pub water : (before : List Node) (t : Tree) (after : List Node) → Subtree nodes root before t after →
      ns ≡ before ++ (records (poured leaf v t) ++ after)
  pub rest : (before : List Node) (t : Tree) (after : List Node) → Subtree nodes root before t after → over ≡ excess leaf v t

-- What is seen of the subtree at `root`.
abbrev pub SurveyedAt : List Node → (root leaf : ℕ) → Survey → Type 0
SurveyedAt nodes root leaf seen =
    (before : List Node) (t : Tree) (after : List Node) → Subtree nodes root before t after → seen ≡ survey_of leaf t
