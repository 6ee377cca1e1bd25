-- From an empty table to the tree of all the records.
use Rattle.std.proofs.Common.{◌≡◌, ℕ, ◌-◌, ◌≤◌, true, false, List, [], ◌∷◌, map, length, replicate, is_ok, Some, None, Ok, Err, Option, Result, sym, refl, ap, ap₂, ◌∙◌, subst, arith}
use Rattle.std.proofs.lemmas.List.{length-map}
use Rattle.std.proofs.lemmas.Bool.{eqb-true}
use Rattle.questions.proofs.Asked.{all_yes, verdict_err, verdict_ok}
use Rattle.questions.specs.Ask.{AllYes, first_no, verdict}
use Rattle.terrain.specs.Format.{Format}
use Rattle.terrain.specs.declared.reader.Reader.{Reader}
use Rattle.terrain.specs.declared.refusal.Refusal.{Refusal}
use Rattle.water.specs.Formed.{Formed, Numbered}
use Rattle.water.specs.Tree.{Tree, dried, first, size}
use Rattle.site.specs.Building.{Building, listed, summary_of}
use Rattle.site.specs.Fill.{Reached, Spelled, loaded_into}
use Rattle.site.specs.Held.{tabled}
use Rattle.site.specs.Loaded.{accepts, refuses}
use Rattle.site.specs.Loader.{end_seen}
use Rattle.site.specs.Postorder.{postorder}
use Rattle.site.specs.Questions.{end_questions, outlets_of, questions_from}
use Rattle.site.specs.Spell.{waiting}
use Rattle.water.specs.Waiting.{newest}
use Rattle.site.specs.declared.node.Node.{Node}
use Rattle.site.specs.declared.node.Node.TheVariants.{Unused}
use Rattle.site.specs.declared.loading.Loading.{Loading}
use Rattle.site.specs.declared.node.Summary.{Summary}
use Rattle.site.specs.declared.table.Table.{Table}

-- Nothing is built in a table of unused places.
pub nothing_built : (table : Table) (summaries : List Summary) → table.nodes ≡ replicate 1023 Unused → table.count ≡ 0 → summaries ≡ [] →
    Building table summaries []
nothing_built table summaries unused none empty =
    record { holds = cc; lined = none; ready = tt; kept = empty }

-- The summaries answer the last questions.
end_seen_lem : (at : ℕ) (w : List Tree) → end_seen at (map summary_of w) ≡ end_questions at w
end_seen_lem at [] = refl
end_seen_lem at (t ∷ w) = cc (length-map (t ∷ w) summary_of)

-- All questions of a file are answered as its last ones once every record has passed.
last_asked : (e : Format) (n : ℕ) (file : List ℕ) → first_no (questions_from e file n 0) ≡ first_no (questions_from e file (n - n) n) →
    first_no (questions_from e file n 0) ≡ first_no (end_questions (length file - 12) (waiting e file n))
last_asked e n file h = let z : n - n ≡ 0 = omega arith in cc

-- One subtree with one outlet is a site's tree, and the table holds it.
pub record OneTree (t : Table) (w : List Tree) : Type 0 where
  pub table : t ≡ tabled (newest w)
  pub formed : Formed (newest w)
  pub dry : dried (newest w) ≡ newest w
  pub listed : postorder (newest w) ≡ listed w

one_tree : (table : Table) (s : List Summary) (w : List Tree) → Building table s w → table.count ≤ 1023 → length w ≡ 1 → outlets_of w ≡ 1 → OneTree table w
one_tree table s [] b few one out = absurd (omega arith)
one_tree table s (t ∷ u ∷ w) b few one out = absurd (omega arith)
one_tree table s (t ∷ []) b few one out =
    let zero_first : first t ≡ 0 = b.lined.2 in
    let c : table.count ≡ size t = omega (arith, b.lined.1) in
    let nodes : table.nodes ≡ (tabled t).nodes = cc (b.holds) in
    record {
      table = ap₂ (λ (ns : List Node) (k : ℕ). record { nodes = ns; count = k }) nodes c;
      formed =
          record { numbered = subst (λ (k : ℕ). Numbered k t) zero_first b.lined.0; shaped = b.ready.0; outlet = out; few = omega arith };
      dry = b.ready.1;
      listed = refl;
    }

-- A refusal is no acceptance.
no_ok : {A : Type 0} (r : Result A Refusal) (x : Refusal) → r ≡ Err x → is_ok r ≡ true → ⊥
no_ok r x re k = let f : is_ok r ≡ false = ap is_ok re in cc

-- A question answered no is what the records give.
pub stopped_err : (e : Format) (n : ℕ) (file : List ℕ) (r : Result Table Refusal) (x : Refusal) → r ≡ Err x →
    first_no (questions_from e file n 0) ≡ Some x → Spelled e n file r
stopped_err e n file r x re q =
    record {
      answer = cc;
      formed = λ k. absurd (no_ok r x re k);
      dry = λ k. absurd (no_ok r x re k);
      spelled = λ k. absurd (no_ok r x re k);
    }

-- What holds of the reader's file holds of the file that it was handed.
pub same_file : (e : Format) (n : ℕ) (file file' : List ℕ) (r : Result Table Refusal) → file' ≡ file → Spelled e n file' r → Spelled e n file r
same_file e n file file' r p s = subst (λ (f : List ℕ). Spelled e n f r) p s

-- When n records have been taken, the last questions decide.
module _ (e : Format) (n at : ℕ) (file : List ℕ) (reader : Reader) (loading : Loading)
    (so_far : Reached e reader loading) (all : loading.table.count ≡ n) (same : reader.file.now ≡ file) (close : at ≡ length file - 12) where
  here : (r : Result Table Refusal) → Spelled e loading.table.count reader.file.now r → Spelled e n file r
  here r s = subst (λ (k : ℕ). Spelled e k file r) all (same_file e loading.table.count file reader.file.now r same s)

  -- The first no of all the questions is that of the last ones.
  decides : (o : Option Refusal) → first_no (end_seen at loading.waiting.items) ≡ o →
      (first_no (end_questions at (waiting e reader.file.now loading.table.count)) ≡ o)
      × (first_no (questions_from e reader.file.now loading.table.count 0) ≡ o)
  decides o q =
      let w : List Tree = waiting e reader.file.now loading.table.count in
      let end : first_no (end_questions at w) ≡ o =
      cc (end_seen_lem at w, so_far.built.kept) in
      let close' : at ≡ length reader.file.now - 12 = close ∙ ap (λ (f : List ℕ). length f - 12) (sym same) in (
        end,
        last_asked e loading.table.count reader.file.now (so_far.asked loading.table.count (omega arith))
            ∙ ap (λ (k : ℕ). first_no (end_questions k w)) (sym close') ∙ end,
      )

  ended_err : (r : Result Table Refusal) (x : Refusal) → r ≡ Err x → refuses x ≡ verdict (first_no (end_seen at loading.waiting.items)) tt → Spelled e n file r
  ended_err r x re q =
      here r (stopped_err e loading.table.count reader.file.now r x re
      (decides (Some x) (verdict_err (first_no (end_seen at loading.waiting.items)) x tt q)).1)

  ended_ok : n ≤ 1023 → accepts ≡ verdict (first_no (end_seen at loading.waiting.items)) tt → Spelled e n file (Ok loading.table)
  ended_ok few q =
      let w : List Tree = waiting e reader.file.now loading.table.count in
      let none = decides None (verdict_ok (first_no (end_seen at loading.waiting.items)) tt tt q).0 in
      let y : AllYes (end_questions at w) = all_yes (end_questions at w) none.0 in
      let t : OneTree loading.table w = one_tree loading.table loading.waiting.items w so_far.built (omega (arith, all)) (eqb-true _ _ y.0) (eqb-true _ _ y.1.0) in
      here (Ok loading.table) record {
        answer = cc (t.table, none.1);
        formed = λ _. t.formed;
        dry = λ _. t.dry;
        spelled = λ _. t.listed ∙ so_far.listed;
      }

  -- The answer to the last questions, either way.
  pub ended : n ≤ 1023 → (r : Result (Unit {0}) Refusal) → r ≡ verdict (first_no (end_seen at loading.waiting.items)) tt →
      Spelled e n file (loaded_into loading.table r)
  ended few (Ok _) q = ended_ok few q
  ended few (Err x) q = ended_err (Err x) x refl q
