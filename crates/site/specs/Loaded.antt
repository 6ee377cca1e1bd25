-- A site as an accepted file leaves it.
use Rattle.std.specs.Prelude.{◌≡◌, ℕ, true, List, is_ok, Ok, Err, Result}
use Rattle.questions.specs.Ask.{first_no, verdict}
use Rattle.terrain.specs.declared.refusal.Refusal.{Refusal}
use Rattle.water.specs.State.{Standing, State, untouched}
use Rattle.water.specs.Tree.{Tree, dried}
use Rattle.water.specs.Formed.{Formed}
use Rattle.site.specs.Held.{tabled}
use Rattle.site.specs.Postorder.{postorder, records_in}
use Rattle.site.specs.Questions.{questions}
use Rattle.site.specs.Spell.{count_in, format_in, tree_in}
use Rattle.site.specs.declared.table.Table.{Table}

-- No other dry tree that is formed as a site's tree has the file's records in postorder.
abbrev pub OnlyTree : List ℕ → Type 0
OnlyTree file =
    (t : Tree) → Formed t → dried t ≡ t → postorder t ≡ records_in (format_in file) file (count_in file) → t ≡ tree_in file

-- The site is in the state of exactly the tree that the records spell in postorder, dry, with all sums zero.
pub record Loaded (file : List ℕ) (site : State) : Type 0 where
  pub state : site ≡ untouched (tree_in file)
  pub stands : Standing (untouched (tree_in file))
  pub dry : dried (tree_in file) ≡ tree_in file
  pub spelled : postorder (tree_in file) ≡ records_in (format_in file) file (count_in file)
  pub only : OnlyTree file

-- What a whole file gives: its tree as a table if every question is answered yes, else the first answered no.
pub record TableRead (file : List ℕ) (r : Result Table Refusal) : Type 0 where
  pub answer : r ≡ verdict (first_no (questions file)) (tabled (tree_in file))
  pub formed : is_ok r ≡ true → Formed (tree_in file)
  pub dry : is_ok r ≡ true → dried (tree_in file) ≡ tree_in file
  pub spelled : is_ok r ≡ true → postorder (tree_in file) ≡ records_in (format_in file) file (count_in file)

-- Loading that is accepted.
abbrev pub accepts : Result (Unit {0}) Refusal
accepts = Ok tt

-- Loading that is refused.
abbrev pub refuses : Refusal → Result (Unit {0}) Refusal
refuses refusal = Err refusal
