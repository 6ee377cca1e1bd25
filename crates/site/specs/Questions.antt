-- All that is asked of a terrain file, in order.
use Rattle.std.specs.Prelude.{ℕ, zero, suc, ◌+◌, ◌-◌, Bool, true, false, not, ◌&&◌, ◌||◌, List, [], ◌∷◌, ◌++◌, length, ◌==◌, nat_le}
use Rattle.questions.specs.Ask.{Question, ask}
use Rattle.terrain.specs.Format.{Format, part}
use Rattle.terrain.specs.Record.{record_questions}
use Rattle.terrain.specs.Trailer.{tail_of, trailer_questions}
use Rattle.terrain.specs.declared.record.Kind.{Kind}
use Rattle.terrain.specs.declared.record.Kind.TheVariants.{Basin, Merge, Outlet}
use Rattle.terrain.specs.declared.record.Record.{Record}
use Rattle.terrain.specs.declared.refusal.Refusal.{Refusal}
use Rattle.terrain.specs.declared.refusal.Refusal.TheVariants.{Waiting, Landings, OpenVolume, Subtrees, Outlets}
use Rattle.water.specs.Tree.{Tree, has_leaf, is_open, outlets}
use Rattle.site.specs.Spell.{format_in, count_in, start_of, record_in, waiting}

-- A merge needs two subtrees that wait.
abbrev pub enough_wait : Kind → List Tree → Bool
enough_wait Basin w = true
enough_wait Outlet w = true
enough_wait Merge w = nat_le 2 (length w)

-- A merge lands on a leaf of its left side and on one of its right side.
abbrev pub lands_in_sides : Record → List Tree → Bool
lands_in_sides rec [] = false
lands_in_sides rec (r ∷ []) = false
lands_in_sides rec (r ∷ l ∷ w) = has_leaf rec.left l && has_leaf rec.right r

-- Leaves have landings 0.
abbrev pub landed : Kind → Record → List Tree → Bool
landed Basin rec w = rec.left == 0 && rec.right == 0
landed Outlet rec w = rec.left == 0 && rec.right == 0
landed Merge rec w = lands_in_sides rec w

-- Is one of the two subtrees that were finished last open?
abbrev pub open_sides : List Tree → Bool
open_sides [] = false
open_sides (r ∷ []) = false
open_sides (r ∷ l ∷ w) = is_open l || is_open r

-- An open merge has no volume.
abbrev pub open_is_empty : Kind → Record → List Tree → Bool
open_is_empty Basin rec w = true
open_is_empty Outlet rec w = true
open_is_empty Merge rec w = not (open_sides w) || rec.own == 0

-- Questions 10 to 12 of a record that starts at `at`, where w waits.
abbrev pub tree_questions : Record → ℕ → List Tree → List (Question Refusal)
tree_questions rec at w =
    ask (enough_wait rec.kind w) (Waiting (length w) at)
    ∷ ask (landed rec.kind rec w) (Landings rec.left rec.right (at + 2))
    ∷ ask (open_is_empty rec.kind rec w) (OpenVolume rec.own (at + 8))
    ∷ []

-- The outlets of the newest subtree that waits.
abbrev pub outlets_of : List Tree → ℕ
outlets_of [] = 0
outlets_of (t ∷ w) = outlets t

-- Questions 13 and 14, after the last record.
abbrev pub end_questions : ℕ → List Tree → List (Question Refusal)
end_questions at w =
    ask (length w == 1) (Subtrees (length w) at)
    ∷ ask (outlets_of w == 1) (Outlets (outlets_of w) at)
    ∷ []

-- The questions of k records from record i on, and then those after the last.
abbrev pub questions_from : Format → List ℕ → ℕ → ℕ → List (Question Refusal)
questions_from e file zero i = end_questions (length file - 12) (waiting e file i)
questions_from e file (suc k) i =
    record_questions e (part file (start_of e file i) e.record_len) (start_of e file i)
    ++ (tree_questions (record_in e file i) (start_of e file i) (waiting e file i) ++ questions_from e file k (suc i))

-- Every question that is asked of a file.
abbrev pub questions : List ℕ → List (Question Refusal)
questions file =
    trailer_questions (length file) (tail_of file) ++ questions_from (format_in file) file (count_in file) 0
