-- One record taken from the file.
use Rattle.std.proofs.Common.{◌≡◌, ℕ, suc, ◌+◌, ◌-◌, ◌*◌, ◌^◌, ◌<◌, ◌≤◌, true, List, ◌++◌, length, Some, None, Ok, Err, Option, Result, sym, refl, ap, ◌∙◌, subst, mul-le-mul_right, suc-mul, add-one, arith}
use Rattle.std.proofs.lemmas.Bool.{cond-true, eqb-true, le-leb, ltb-true}
use Rattle.questions.specs.Ask.{AllYes, Question, first_no}
use Rattle.terrain.specs.Format.{Format, part}
use Rattle.terrain.specs.Record.{record_questions, volume_fits}
use Rattle.terrain.specs.Steps.{next_record, place_after, record_at}
use Rattle.terrain.specs.declared.reader.Reader.{Reader}
use Rattle.terrain.specs.declared.record.Kind.{Kind}
use Rattle.terrain.specs.declared.record.Kind.TheVariants.{Basin, Merge, Outlet}
use Rattle.terrain.specs.declared.record.Record.{Record}
use Rattle.terrain.specs.declared.refusal.Refusal.{Refusal}
use Rattle.questions.proofs.Asked.{all_passed, all_yes, some_stopped, verdict_ok, verdict_err}
use Rattle.water.specs.Tree.{Tree}
use Rattle.site.specs.Building.{Building, listed}
use Rattle.site.specs.Fill.{Filled, Fits, MoreLeft, Reached}
use Rattle.site.specs.Loader.{Grew, questions_seen, summaries_after, table_after}
use Rattle.site.specs.Postorder.{records_in}
use Rattle.site.specs.Questions.{questions_from, tree_questions}
use Rattle.site.specs.Spell.{grown, start_of, record_in, waiting}
use Rattle.site.specs.declared.loading.Loading.{Loading}
use Rattle.site.specs.declared.node.Summary.{Summary}
use Rattle.site.specs.declared.table.Table.{Table}
use Rattle.site.proofs.Built.{built_more, same_questions}
use Rattle.site.proofs.Listed.{listed_more}

-- Where the next record starts.
pub next_start : (e : Format) (file : List ℕ) (i : ℕ) → start_of e file (i + 1) ≡ start_of e file i + e.record_len
next_start e file i =
    let m : (i + 1) * e.record_len ≡ i * e.record_len + e.record_len = ap (λ (k : ℕ). k * e.record_len) (add-one i) ∙ suc-mul i e.record_len in
    omega arith

-- A record of a file whose records fit is left.
pub more_left : (e : Format) (n i : ℕ) (file : List ℕ) → Fits e n file → i < n → MoreLeft e i file
more_left e n i file f h =
    let m : suc i * e.record_len ≤ n * e.record_len = mul-le-mul_right e.record_len h in
    let s : suc i * e.record_len ≡ i * e.record_len + e.record_len = suc-mul i e.record_len in
    record { few = omega (arith, f.most); there = omega (arith, f.long); bound = f.bound }

-- So the reader's next step reads it.
next_there : (e : Format) (i at : ℕ) (file : List ℕ) → MoreLeft e i file → at ≡ start_of e file i →
    next_record e file at ≡ Some (record_at e file (start_of e file i))
next_there e i at file m p =
    let w : start_of e file i + e.record_len ≤ length file = omega (arith, m.there) in
    ap (next_record e file) p ∙ cond-true _ _ _ (le-leb _ _ w)

abbrev pub record_asked : Format → List ℕ → ℕ → List (Question Refusal)
record_asked e file i = record_questions e (part file (start_of e file i) e.record_len) (start_of e file i)

abbrev pub tree_asked : Format → List ℕ → ℕ → List (Question Refusal)
tree_asked e file i = tree_questions (record_in e file i) (start_of e file i) (waiting e file i)

-- The questions that are left after record i.
abbrev left_asked : Format → ℕ → List ℕ → ℕ → List (Question Refusal)
left_asked e n file i = questions_from e file (n - (i + 1)) (suc i)

-- The questions of record i, and those that are left then.
asked_next : (e : Format) (n i : ℕ) (file : List ℕ) → i < n →
    questions_from e file (n - i) i ≡ record_asked e file i ++ (tree_asked e file i ++ left_asked e n file i)
asked_next e n i file h = let s : n - i ≡ suc (n - (i + 1)) = omega arith in ap (λ (k : ℕ). questions_from e file k i) s

stopped_at_record : (e : Format) (n i : ℕ) (file : List ℕ) (x : Refusal) → i < n → first_no (record_asked e file i) ≡ Some x →
    first_no (questions_from e file (n - i) i) ≡ Some x
stopped_at_record e n i file x h s =
    cc (asked_next e n i file h, some_stopped (record_asked e file i) (tree_asked e file i ++ left_asked e n file i) x s)

stopped_at_tree : (e : Format) (n i : ℕ) (file : List ℕ) (x : Refusal) → i < n → first_no (record_asked e file i) ≡ None →
    first_no (tree_asked e file i) ≡ Some x → first_no (questions_from e file (n - i) i) ≡ Some x
stopped_at_tree e n i file x h p s =
    cc (
      asked_next e n i file h,
      all_passed (record_asked e file i) (tree_asked e file i ++ left_asked e n file i) p,
      some_stopped (tree_asked e file i) (left_asked e n file i) x s,
    )

passed_record : (e : Format) (n i : ℕ) (file : List ℕ) → i < n → first_no (record_asked e file i) ≡ None →
    first_no (tree_asked e file i) ≡ None → first_no (questions_from e file (n - i) i) ≡ first_no (questions_from e file (n - (i + 1)) (i + 1))
passed_record e n i file h p q =
    cc (
      asked_next e n i file h,
      all_passed (record_asked e file i) (tree_asked e file i ++ left_asked e n file i) p,
      all_passed (tree_asked e file i) (left_asked e n file i) q,
      add-one i,
    )

-- A volume that was let through is below 2^40.
fits_below : (k : Kind) (v : ℕ) → volume_fits k v ≡ true → v < 2 ^ 40
fits_below Basin v h = ltb-true _ _ h
fits_below Merge v h = ltb-true _ _ h
fits_below Outlet v h = omega (arith, eqb-true _ _ h)

-- What the loader has after i records, over the file by itself.
pub reached_with : (e : Format) (i : ℕ) (file : List ℕ) (reader : Reader) (loading : Loading) → reader.file.now ≡ file →
    reader.place.at ≡ start_of e file i → loading.table.count ≡ i → Building loading.table loading.waiting.items (waiting e file i) →
    listed (waiting e file i) ≡ records_in e file i →
    ((n : ℕ) → i ≤ n → first_no (questions_from e file n 0) ≡ first_no (questions_from e file (n - i) i)) → Reached e reader loading
reached_with e i file reader loading fe place count built list asked =
    let P : List ℕ → ℕ → Type 0 = λ f k.
    (reader.place.at ≡ start_of e f k) × Building loading.table loading.waiting.items (waiting e f k)
    × (listed (waiting e f k) ≡ records_in e f k)
    × ((n : ℕ) → k ≤ n → first_no (questions_from e f n 0) ≡ first_no (questions_from e f (n - k) k)) in
    let here = subst (P reader.file.now) (sym count) (subst (λ (f : List ℕ). P f i) (sym fe) (place, built, list, asked)) in
    record { place = here.0; built = here.1; listed = here.2; asked = here.3 }

-- The loader's questions of record i are those of the file.
seen_asked : (e : Format) (i at : ℕ) (file : List ℕ) (said : Record) (t : Table) (s : List Summary) → Building t s (waiting e file i) → t.count ≤ 1023 →
    at ≡ start_of e file i → said ≡ record_in e file i → questions_seen t s said at ≡ tree_asked e file i
seen_asked e i at file said t s b few pe se =
    cc (same_questions t s (waiting e file i) said at b few)

-- From record i on a reader's step gives what the file says there.
module _ (e : Format) (reader : Reader) (loading : Loading) (more : MoreLeft e loading.table.count reader.file.now) (so_far : Reached e reader loading) where
  -- The record that was read is the file's record i.
  read_is : (read : Option (Result Record Refusal)) (step : Result Record Refusal) → read ≡ next_record e reader.file.now reader.place.at → read ≡ Some step →
      step ≡ record_at e reader.file.now (start_of e reader.file.now loading.table.count)
  read_is read step answer is =
      let t = next_there e loading.table.count reader.place.at reader.file.now more so_far.place in
      let z : Some step ≡ Some (record_at e reader.file.now (start_of e reader.file.now loading.table.count)) = sym is ∙ answer ∙ t in
      cc

  -- A record that is refused gives the first no, however many records follow.
  pub refused_record : (read : Option (Result Record Refusal)) (x : Refusal) → read ≡ next_record e reader.file.now reader.place.at → read ≡ Some (Err x) →
      (n : ℕ) → loading.table.count + 1 ≤ n → first_no (questions_from e reader.file.now n 0) ≡ Some x
  refused_record read x answer is n h =
      let i : ℕ = loading.table.count in
      so_far.asked n (omega arith)
      ∙ stopped_at_record e n i reader.file.now x (omega arith)
      (verdict_err (first_no (record_asked e reader.file.now i)) x (record_in e reader.file.now i) (read_is read (Err x) answer is))

  -- A record that was read and grown: the loader is one record further, or the answer is the first question answered no.
  pub taken : (read : Option (Result Record Refusal)) (said : Record) (at : ℕ) (next : Reader) (after : Loading) (r : Result (Unit {0}) Refusal) →
      read ≡ next_record e reader.file.now reader.place.at → read ≡ Some (Ok said) → at ≡ reader.place.at → Grew loading after said at r →
      next.file ≡ reader.file → next.place.at ≡ place_after reader.file.now reader.place.at e.record_len →
      Filled e (loading.table.count + 1) reader.file.now next after r
  taken read said at next after (Ok u) answer is ae grew fe pe =
      let file : List ℕ = reader.file.now in
      let t : Table = loading.table in
      let s : List Summary = loading.waiting.items in
      let i : ℕ = t.count in
      let w : List Tree = waiting e file i in
      let passed = verdict_ok (first_no (record_asked e file i)) said (record_in e file i) (read_is read (Ok said) answer is) in
      let q = seen_asked e i at file said t s so_far.built (omega (arith, more.few)) (ae ∙ so_far.place) passed.1 in
      let none : first_no (questions_seen t s said at) ≡ None = (verdict_ok (first_no (questions_seen t s said at)) u tt grew.answer).0 in
      let yes : first_no (tree_questions said at w) ≡ None =
      cc (same_questions t s w said at so_far.built (omega (arith, more.few))) in
      let fits : volume_fits said.kind said.own ≡ true =
      subst (λ (x : Record). volume_fits x.kind x.own ≡ true) (sym passed.1) (all_yes (record_asked e file i) passed.0).1.1.0 in
      let g : grown i said w ≡ waiting e file (i + 1) = cc (passed.1, add-one i) in
      let b = built_more t s w said at so_far.built more.few (fits_below said.kind said.own fits) yes in
      let b' : Building after.table after.waiting.items (waiting e file (i + 1)) =
      subst (λ (x : Table). Building x after.waiting.items (waiting e file (i + 1))) (sym (grew.table refl))
      (subst (λ (x : List Summary). Building (table_after t said s) x (waiting e file (i + 1))) (sym (grew.waiting refl))
      (subst (Building (table_after t said s) (summaries_after said.kind i s)) g b)) in
      let y : AllYes (tree_questions said at w) = all_yes (tree_questions said at w) yes in
      let list : listed (waiting e file (i + 1)) ≡ records_in e file (i + 1) =
      cc (listed_more i said w y.0 y.1.0 fits, passed.1, add-one i) in
      let behind : start_of e file i + e.record_len ≤ length file = omega (arith, more.there) in
      let place : next.place.at ≡ start_of e file (i + 1) =
      pe ∙ ap (λ (k : ℕ). place_after file k e.record_len) so_far.place ∙ cond-true _ _ _ (le-leb _ _ behind) ∙ sym (next_start e file i) in
      let count : after.table.count ≡ i + 1 = ap (λ (x : Table). x.count) (grew.table refl) in (
        reached_with e (i + 1) file next after (ap (λ x. x.now) fe) place count b' list (λ n h.
            so_far.asked n (omega arith) ∙ passed_record e n i file (omega arith) passed.0 (ap first_no (sym q) ∙ none)),
        count,
      )
  taken read said at next after (Err x) answer is ae grew fe pe = λ n h.
      let file : List ℕ = reader.file.now in
      let t : Table = loading.table in
      let s : List Summary = loading.waiting.items in
      let passed = verdict_ok (first_no (record_asked e file t.count)) said (record_in e file t.count) (read_is read (Ok said) answer is) in
      let q = seen_asked e t.count at file said t s so_far.built (omega (arith, more.few)) (ae ∙ so_far.place) passed.1 in
      let some = verdict_err (first_no (questions_seen t s said at)) x tt grew.answer in
      so_far.asked n (omega arith) ∙ stopped_at_tree e n t.count file x (omega arith) passed.0 (ap first_no (sym q) ∙ some)
