use Rattle.std.proofs.Common.{◌≡◌, ◌≤◌, [], length, drop}
use Rattle.site.specs.Measures.{heights}
use Rattle.site.proofs.measure.tree_height.Given as goal

-- The heights that wait and the records that are left give the heights of all.
abbrev pub invariant-loop-node : goal.invariant-loop-node
invariant-loop-node l =
    (heights (drop l.node-index l.nodes) l.waiting.items ≡ heights l.nodes [])
    × (length l.waiting.items ≤ l.node-index)
    × (l.waiting.room ≡ 1023)
