-- The loader's view of the tree that it builds: the table and the summaries of the subtrees that wait.
use Rattle.std.specs.Prelude.{◌≡◌, ℕ, ◌+◌, min, Bool, true, false, not, ◌&&◌, ◌||◌, List, [], ◌∷◌, length, is_ok, Result, ◌==◌, nat_le, nat_lt, slice_index_or, slice_set}
use Rattle.questions.specs.Ask.{Question, ask, first_no, verdict}
use Rattle.terrain.specs.declared.record.Kind.{Kind}
use Rattle.terrain.specs.declared.record.Kind.TheVariants.{Basin, Merge, Outlet}
use Rattle.terrain.specs.declared.record.Record.{Record}
use Rattle.terrain.specs.declared.refusal.Refusal.{Refusal}
use Rattle.terrain.specs.declared.refusal.Refusal.TheVariants.{Waiting, Landings, OpenVolume, Subtrees, Outlets}
use Rattle.site.specs.declared.loading.Loading.{Loading}
use Rattle.site.specs.declared.node.Node.{Node}
use Rattle.site.specs.declared.node.Node.TheVariants.{Unused, Basin as BasinNode, Outlet as OutletNode, Merge as MergeNode}
use Rattle.site.specs.declared.node.Summary.{Summary}
use Rattle.site.specs.declared.table.Table.{Table}

-- Is a place of the table a leaf?
abbrev pub leaf_node : Node → Bool
leaf_node Unused = false
leaf_node (BasinNode o w) = true
leaf_node (OutletNode w) = true
leaf_node (MergeNode o w c a b) = false

-- Is number k, of the records from `from` up to before `to`, a leaf?
abbrev pub leaf_among : List Node → ℕ → ℕ → ℕ → Bool
leaf_among nodes k from to = nat_le from k && (nat_lt k to && (nat_lt k 1023 && leaf_node (slice_index_or nodes k Unused)))

-- A merge needs two summaries that wait.
abbrev pub enough_seen : Kind → List Summary → Bool
enough_seen Basin s = true
enough_seen Outlet s = true
enough_seen Merge s = nat_le 2 (length s)

-- A merge lands on a leaf among the records of each side.
abbrev pub sides_seen : Table → Record → List Summary → Bool
sides_seen t rec [] = false
sides_seen t rec (r ∷ []) = false
sides_seen t rec (r ∷ l ∷ s) =
    leaf_among t.nodes rec.left l.first r.first && leaf_among t.nodes rec.right r.first t.count

-- A record's landings, refused.
abbrev pub landings_refused : Record → ℕ → Refusal
landings_refused rec at = Landings rec.left rec.right (at + 2)

-- What is asked of a leaf: are its landings 0?
abbrev pub leaf_question : Record → ℕ → List (Question Refusal)
leaf_question rec at = ask (rec.left == 0 && rec.right == 0) (landings_refused rec at) ∷ []

-- Leaves have landings 0.
abbrev pub landed_seen : Kind → Table → Record → List Summary → Bool
landed_seen Basin t rec s = rec.left == 0 && rec.right == 0
landed_seen Outlet t rec s = rec.left == 0 && rec.right == 0
landed_seen Merge t rec s = sides_seen t rec s

-- The outlets of both sides; far fewer than 65,535.
abbrev pub outlets_seen : List Summary → ℕ
outlets_seen [] = 0
outlets_seen (r ∷ []) = 0
outlets_seen (r ∷ l ∷ s) = min (l.outlets + r.outlets) 65535

-- An open merge has no volume.
abbrev pub open_seen : Kind → Record → List Summary → Bool
open_seen Basin rec s = true
open_seen Outlet rec s = true
open_seen Merge rec s = not (nat_lt 0 (outlets_seen s)) || rec.own == 0

-- Questions 10 to 12, as the table and the summaries answer them.
abbrev pub questions_seen : Table → List Summary → Record → ℕ → List (Question Refusal)
questions_seen t s rec at =
    ask (enough_seen rec.kind s) (Waiting (length s) at)
    ∷ ask (landed_seen rec.kind t rec s) (landings_refused rec at)
    ∷ ask (open_seen rec.kind rec s) (OpenVolume rec.own (at + 8))
    ∷ []

-- The first record of the newest subtree, where the right side of a merge begins.
abbrev pub cut_seen : List Summary → ℕ
cut_seen [] = 0
cut_seen (r ∷ s) = r.first

-- The place that a record gets, dry.
abbrev pub node_for : Kind → Record → List Summary → Node
node_for Basin rec s = BasinNode rec.own 0
node_for Outlet rec s = OutletNode 0
node_for Merge rec s = MergeNode rec.own 0 (cut_seen s) rec.left rec.right

-- The table with one record more.
abbrev pub table_after : Table → Record → List Summary → Table
table_after t rec s = record { nodes = slice_set t.nodes t.count (node_for rec.kind rec s); count = t.count + 1 }

-- A merge takes the place of the two newest.
abbrev pub merged_summaries : List Summary → List Summary
merged_summaries [] = []
merged_summaries (r ∷ []) = r ∷ []
merged_summaries (r ∷ l ∷ s) = record { first = l.first; outlets = min (l.outlets + r.outlets) 65535 } ∷ s

-- The summaries of the subtrees that wait after a record.
abbrev pub summaries_after : Kind → ℕ → List Summary → List Summary
summaries_after Basin i s = record { first = i; outlets = 0 } ∷ s
summaries_after Outlet i s = record { first = i; outlets = 1 } ∷ s
summaries_after Merge i s = merged_summaries s

-- The outlets of the newest subtree.
abbrev pub newest_outlets : List Summary → ℕ
newest_outlets [] = 0
newest_outlets (r ∷ s) = r.outlets

-- Questions 13 and 14, as the summaries answer them.
abbrev pub end_seen : ℕ → List Summary → List (Question Refusal)
end_seen at s =
    ask (length s == 1) (Subtrees (length s) at)
    ∷ ask (newest_outlets s == 1) (Outlets (newest_outlets s) at)
    ∷ []

-- One record more: the answer to questions 10 to 12, and what stands there if they are all answered yes.
pub record Grew (before after : Loading) (rec : Record) (at : ℕ) (r : Result (Unit {0}) Refusal) : Type 0 where
  pub answer : r ≡ verdict (first_no (questions_seen before.table before.waiting.items rec at)) tt
  pub table : is_ok r ≡ true → after.table ≡ table_after before.table rec before.waiting.items
  pub waiting : is_ok r ≡ true → after.waiting.items ≡ summaries_after rec.kind before.table.count before.waiting.items
