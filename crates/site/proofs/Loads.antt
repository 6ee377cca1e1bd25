-- From the trailer to the whole file.
use Rattle.std.proofs.Common.{◌≡◌, ℕ, List, length, Some, None, Ok, Err, Result, sym, refl, ap, ◌∙◌, subst}
use Rattle.questions.specs.Ask.{first_no, verdict}
use Rattle.terrain.specs.Trailer.{count_of, format_of, name_of, tail_of, trailer_of, trailer_questions}
use Rattle.terrain.specs.declared.reader.Reader.{Reader}
use Rattle.terrain.specs.declared.refusal.Refusal.{Refusal}
use Rattle.terrain.specs.declared.trailer.EditionName.{EditionName}
use Rattle.terrain.specs.declared.trailer.Trailer.{Trailer}
use Rattle.questions.proofs.Asked.{all_passed, some_stopped, verdict_err, verdict_ok}
use Rattle.water.specs.State.{untouched}
use Rattle.site.specs.Fill.{Spelled}
use Rattle.site.specs.Held.{Held, Holds, tabled}
use Rattle.site.specs.Loaded.{Loaded, TableRead}
use Rattle.site.specs.Questions.{questions, questions_from}
use Rattle.site.specs.Shows.{shown}
use Rattle.site.specs.Spell.{count_in, format_in, tree_in}
use Rattle.site.specs.declared.table.Table.{Table}
use Rattle.site.proofs.Ended.{same_file}
use Rattle.site.proofs.Listed.{one_postorder}
use Rattle.site.proofs.OneTree.{held, one_state}
use Rattle.site.proofs.Sounds.{dry_holds}

-- The trailer passes, and the records give what they give.
pub whole_file : (name : EditionName) (n : ℕ) (file : List ℕ) (r : Result Table Refusal) → name_of (tail_of file) ≡ name → n ≡ count_of (format_of name) (tail_of file) →
    first_no (trailer_questions (length file) (tail_of file)) ≡ None → Spelled (format_of name) n file r → TableRead file r
whole_file name n file r ne ce h s =
    let s₁ : Spelled (format_of name) (count_of (format_of name) (tail_of file)) file r = subst (λ (k : ℕ). Spelled (format_of name) k file r) ce s in
    let s₂ : Spelled (format_in file) (count_in file) file r =
    subst (λ (k : EditionName). Spelled (format_of k) (count_of (format_of k) (tail_of file)) file r) (sym ne) s₁ in
    let q : first_no (questions file) ≡ first_no (questions_from (format_in file) file (count_in file) 0) =
    all_passed (trailer_questions (length file) (tail_of file)) (questions_from (format_in file) file (count_in file) 0) h in
    record {
      answer = cc (s₂.answer);
      formed = s₂.formed;
      dry = s₂.dry;
      spelled = s₂.spelled;
    }

-- A refusal of the trailer is the file's.
pub trailer_refused : (new file : List ℕ) (x : Refusal) → new ≡ file →
    Err x ≡ verdict (first_no (trailer_questions (length new) (tail_of new))) (trailer_of (length new) (tail_of new)) → first_no (questions file) ≡ Some x
trailer_refused new file x fe h =
    let q = verdict_err (first_no (trailer_questions (length new) (tail_of new))) x (trailer_of (length new) (tail_of new)) h in
    some_stopped (trailer_questions (length file) (tail_of file)) (questions_from (format_in file) file (count_in file) 0) x
    (ap (λ (f : List ℕ). first_no (trailer_questions (length f) (tail_of f))) (sym fe) ∙ q)

-- The first question answered no is the answer.
pub refused : (file : List ℕ) {r : Result (Unit {0}) Refusal} {x : Refusal} → r ≡ Err x → first_no (questions file) ≡ Some x →
    r ≡ verdict (first_no (questions file)) tt
refused file re q = cc

-- What is read of a file after its accepted trailer is what the whole file gives.
pub handed : (name : EditionName) (file : List ℕ) (t : Trailer) (reader : Reader) → reader.file.now ≡ file →
    Ok t ≡ verdict (first_no (trailer_questions (length file) (tail_of file))) (trailer_of (length file) (tail_of file)) →
    t.edition ≡ name → (r : Result Table Refusal) → Spelled (format_of name) t.count reader.file.now r → TableRead file r
handed name file t reader fe h is r s =
    let p = verdict_ok (first_no (trailer_questions (length file) (tail_of file))) t (trailer_of (length file) (tail_of file)) h in
    let ne : name_of (tail_of file) ≡ name = sym (ap (λ (x : Trailer). x.edition) p.1) ∙ is in
    let c : t.count ≡ count_of (format_of name) (tail_of file) =
    ap (λ (x : Trailer). x.count) p.1 ∙ ap (λ (k : EditionName). count_of (format_of k) (tail_of file)) ne in
    whole_file name t.count file r ne c p.0 (same_file (format_of name) t.count file reader.file.now r fe s)

pub table_refused : (file : List ℕ) (x : Refusal) → TableRead file (Err x) → first_no (questions file) ≡ Some x
table_refused file x t = verdict_err (first_no (questions file)) x (tabled (tree_in file)) t.answer

-- A table that was read is the file's tree, and every question was answered yes.
module _ (file : List ℕ) (table : Table) (h : TableRead file (Ok table)) where
  table_read : (first_no (questions file) ≡ None) × (table ≡ tabled (tree_in file))
  table_read = verdict_ok (first_no (questions file)) table (tabled (tree_in file)) h.answer

  pub all_answered : first_no (questions file) ≡ None
  all_answered = table_read.0

  read_holds : Holds table 0 0 (untouched (tree_in file))
  read_holds = dry_holds table (tree_in file) table_read.1 (h.formed refl) (h.dry refl)

  pub read_held : Held table 0 0
  read_held = held read_holds

  -- And its site is loaded: no other tree has the file's records.
  pub site_loaded : Loaded file (shown table 0 0)
  site_loaded =
      let f = h.formed refl in
      record {
        state = one_state read_holds;
        stands = read_holds.stands;
        dry = h.dry refl;
        spelled = h.spelled refl;
        only = λ t ft dt st. one_postorder t (tree_in file) ft.numbered f.numbered dt (h.dry refl) (st ∙ sym (h.spelled refl));
      }
