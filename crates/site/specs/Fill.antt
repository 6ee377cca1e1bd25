-- What the loader has done when it has gone through the records.
use Rattle.std.specs.Prelude.{◌≡◌, ℕ, ◌+◌, ◌-◌, ◌^◌, ◌<◌, ◌≤◌, true, List, length, is_ok, Some, Ok, Err, Result}
use Rattle.questions.specs.Ask.{first_no, verdict}
use Rattle.terrain.specs.Format.{Format}
use Rattle.terrain.specs.declared.reader.Reader.{Reader}
use Rattle.terrain.specs.declared.refusal.Refusal.{Refusal}
use Rattle.site.specs.Building.{Building, listed}
use Rattle.site.specs.Held.{tabled}
use Rattle.site.specs.Postorder.{postorder, records_in}
use Rattle.site.specs.Questions.{questions_from}
use Rattle.site.specs.Spell.{start_of, tree_of, waiting}
use Rattle.water.specs.Formed.{Formed}
use Rattle.water.specs.Tree.{dried}
use Rattle.site.specs.declared.loading.Loading.{Loading}
use Rattle.site.specs.declared.table.Table.{Table}

-- The records so far, all their questions answered yes: the first no of any n is among the questions that are left.
pub record Reached (e : Format) (reader : Reader) (loading : Loading) : Type 0 where
  pub place : reader.place.at ≡ start_of e reader.file.now loading.table.count
  pub built : Building loading.table loading.waiting.items (waiting e reader.file.now loading.table.count)
  pub listed : listed (waiting e reader.file.now loading.table.count) ≡ records_in e reader.file.now loading.table.count
  pub asked : (n : ℕ) → loading.table.count ≤ n →
      first_no (questions_from e reader.file.now n 0)
      ≡ first_no (questions_from e reader.file.now (n - loading.table.count) loading.table.count)

-- The records of a file lie between its note and its trailer.
pub record Fits (e : Format) (n : ℕ) (file : List ℕ) : Type 0 where
  pub most : n ≤ 1023
  pub long : start_of e file n + 12 ≡ length file
  pub bound : length file < 2 ^ 64

-- Record i lies before the trailer.
pub record MoreLeft (e : Format) (i : ℕ) (file : List ℕ) : Type 0 where
  pub few : i < 1023
  pub there : start_of e file i + e.record_len + 12 ≤ length file
  pub bound : length file < 2 ^ 64

-- The questions of i records are all answered yes, or the first answered no is the answer.
abbrev pub Filled : Format → ℕ → List ℕ → Reader → Loading → Result (Unit {0}) Refusal → Type 0
Filled e i file reader loading (Ok _) = Reached e reader loading × (loading.table.count ≡ i)
Filled e i file reader loading (Err x) = (n : ℕ) → i ≤ n → first_no (questions_from e file n 0) ≡ Some x

-- What loading into a table gives: the table as it stands then, or the first question answered no.
abbrev pub loaded_into : Table → Result (Unit {0}) Refusal → Result Table Refusal
loaded_into table (Ok _) = Ok table
loaded_into table (Err x) = Err x

-- What n records give: their tree as a table if every question is answered yes, else the first answered no.
pub record Spelled (e : Format) (n : ℕ) (file : List ℕ) (r : Result Table Refusal) : Type 0 where
  pub answer : r ≡ verdict (first_no (questions_from e file n 0)) (tabled (tree_of e file n))
  pub formed : is_ok r ≡ true → Formed (tree_of e file n)
  pub dry : is_ok r ≡ true → dried (tree_of e file n) ≡ tree_of e file n
  pub spelled : is_ok r ≡ true → postorder (tree_of e file n) ≡ records_in e file n
