-- What is seen of a subtree and its water.
use Rattle.std.specs.Prelude.{ℕ, ◌+◌, Bool, cond, ◌&&◌, ◌==◌}
use Rattle.water.specs.Level.{level}
use Rattle.water.specs.Tree.{Tree, full}
use Rattle.water.specs.Water.{held}
use Rattle.site.specs.declared.node.Survey.{Survey}

-- What there is to see of a tree.
abbrev pub survey_of : (leaf : ℕ) → Tree → Survey
survey_of leaf t = record { full = full t; held = held t; level = level leaf t }

-- What is seen of a merge from what is seen of its sides.
abbrev pub joined : Survey → Survey → (own water : ℕ) → Bool → Survey
joined l r own water on_left =
    record {
      full = l.full && (r.full && water == own);
      held = l.held + r.held + water;
      level = cond (l.full && r.full) (l.held + r.held + water) (cond on_left l.level r.level);
    }
