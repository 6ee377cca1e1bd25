-- What the loader has built stays as it should be from record to record.
use Rattle.std.proofs.Common.{◌≡◌, ℕ, suc, ◌+◌, ◌-◌, ◌^◌, ◌<◌, ◌≤◌, min, true, not, ◌||◌, eqb, ltb, leb, List, [], ◌∷◌, ◌++◌, map, length, set, replicate, None, sym, refl, ap, ◌∙◌, subst, arith}
use Rattle.std.proofs.lemmas.List.{append_assoc, length-append, length-map, set_at}
use Rattle.std.proofs.lemmas.Bool.{and_parts, eqb-true}
use Rattle.std.proofs.lemmas.Bool.Decides.{nat_tests}
use Rattle.questions.proofs.Asked.{all_yes}
use Rattle.questions.specs.Ask.{first_no}
use Rattle.terrain.specs.declared.record.Kind.{Kind}
use Rattle.terrain.specs.declared.record.Kind.TheVariants.{Basin, Merge, Outlet}
use Rattle.terrain.specs.declared.record.Record.{Record}
use Rattle.water.specs.Tree.{Tree, basin, outlet, merge, size, first, outlets, has_leaf, dried}
use Rattle.water.specs.Formed.{Numbered, Shaped}
use Rattle.site.specs.Building.{written, Lined, Ready, summary_of, Building}
use Rattle.site.specs.Loader.{leaf_among, enough_seen, sides_seen, landed_seen, outlets_seen, open_seen, questions_seen, node_for, table_after, summaries_after, merged_summaries}
use Rattle.site.specs.Questions.{enough_wait, lands_in_sides, landed, open_sides, open_is_empty, tree_questions}
use Rattle.site.specs.Records.{records}
use Rattle.site.specs.Spell.{grown, grown_by, joined}
use Rattle.site.specs.declared.node.Node.{Node}
use Rattle.site.specs.declared.node.Node.TheVariants.{Unused}
use Rattle.site.specs.declared.node.Summary.{Summary}
use Rattle.site.specs.declared.table.Table.{Table}
use Rattle.site.proofs.Trees.{length_records, among, open_is, outlets_few}

pub length_written : (w : List Tree) (n : ℕ) → Lined n w → length (written w) ≡ n
length_written [] n h = sym h
length_written (t ∷ w) n h =
    length-append (written w) (records t) ∙ omega (arith, length_written w (first t) h.2, length_records t, h.1)

-- The table as it is while w waits.
abbrev pub table_with : List Tree → ℕ → List Node
table_with w n = written w ++ replicate (1023 - n) Unused

-- A record goes into the first unused place.
pub put_next : (xs : List Node) (n : ℕ) (x : Node) → length xs ≡ n → n < 1023 →
    set (xs ++ replicate (1023 - n) Unused) n x ≡ (xs ++ x ∷ []) ++ replicate (1023 - (n + 1)) Unused
put_next xs n x e h =
    let s : 1023 - n ≡ suc (1023 - (n + 1)) = omega arith in
    ap (λ (k : ℕ). set (xs ++ replicate k Unused) n x) s
    ∙ set_at xs Unused (replicate (1023 - (n + 1)) Unused) x n e
    ∙ sym (append_assoc xs (x ∷ []) (replicate (1023 - (n + 1)) Unused))

-- Leaves of the two sides of a merge, by the table.
sides_seen_lem : (t : Table) (rec : Record) (w : List Tree) → t.nodes ≡ table_with w t.count → Lined t.count w → t.count ≤ 1023 →
    sides_seen t rec (map summary_of w) ≡ lands_in_sides rec w
sides_seen_lem t rec [] e h few = refl
sides_seen_lem t rec (r ∷ []) e h few = refl
sides_seen_lem t rec (r ∷ l ∷ w) e h few =
    let n : ℕ = t.count in
    let U : List Node = replicate (1023 - n) Unused in
    let pre : length (written w) ≡ first l = length_written w (first l) h.2.2 in
    let cut : first r ≡ first l + size l = h.2.1 in
    let both : length (written w ++ records l) ≡ first r =
    length-append (written w) (records l) ∙ omega (arith, pre, length_records l, cut) in
    let p : leaf_among t.nodes rec.left (first l) (first r) ≡ has_leaf rec.left l =
    among t.nodes (written w) (records r ++ U) l rec.left (first l) (first r)
    (e ∙ append_assoc (written w ++ records l) (records r) U) pre h.2.0 cut (omega (arith, h.1)) in
    let q : leaf_among t.nodes rec.right (first r) n ≡ has_leaf rec.right r =
    among t.nodes (written w ++ records l) U r rec.right (first r) n e both h.0 h.1 few in
    cc

landed_seen_lem : (k : Kind) (t : Table) (rec : Record) (w : List Tree) → t.nodes ≡ table_with w t.count → Lined t.count w → t.count ≤ 1023 →
    landed_seen k t rec (map summary_of w) ≡ landed k rec w
landed_seen_lem Basin t rec w e h few = refl
landed_seen_lem Outlet t rec w e h few = refl
landed_seen_lem Merge t rec w e h few = sides_seen_lem t rec w e h few

-- The two newest subtrees have few outlets.
outlets_sum : (r l : Tree) (w : List Tree) (n : ℕ) → Lined n (r ∷ l ∷ w) → n ≤ 1023 → min (outlets l + outlets r) 65535 ≡ outlets l + outlets r
outlets_sum r l w n h few = omega (arith, outlets_few l, outlets_few r, h.1, h.2.1)

sides_open : (w : List Tree) (n : ℕ) → Lined n w → n ≤ 1023 → ltb 0 (outlets_seen (map summary_of w)) ≡ open_sides w
sides_open [] n h few = refl
sides_open (r ∷ []) n h few = refl
sides_open (r ∷ l ∷ w) n h few =
    let p = open_is l in let q = open_is r in let m = outlets_sum r l w n h few in grind (arith, nat_tests)

open_seen_lem : (k : Kind) (rec : Record) (w : List Tree) (n : ℕ) → Lined n w → n ≤ 1023 → open_seen k rec (map summary_of w) ≡ open_is_empty k rec w
open_seen_lem Basin rec w n h few = refl
open_seen_lem Outlet rec w n h few = refl
open_seen_lem Merge rec w n h few = cc (sides_open w n h few)

enough_seen_lem : (k : Kind) (w : List Tree) → enough_seen k (map summary_of w) ≡ enough_wait k w
enough_seen_lem Basin w = refl
enough_seen_lem Outlet w = refl
enough_seen_lem Merge w = ap (leb 2) (length-map w summary_of)

-- The table and the summaries answer the tree's questions.
pub same_questions : (t : Table) (s : List Summary) (w : List Tree) (rec : Record) (at : ℕ) → Building t s w → t.count ≤ 1023 →
    questions_seen t s rec at ≡ tree_questions rec at w
same_questions t s w rec at b few =
    cc (b.kept, length-map w summary_of, enough_seen_lem rec.kind w, landed_seen_lem rec.kind t rec w b.holds b.lined few, open_seen_lem rec.kind rec w t.count b.lined few)

dry_merge : (i o c x y : ℕ) (l r : Tree) → dried l ≡ l → dried r ≡ r → dried (merge i o 0 c x y l r) ≡ merge i o 0 c x y l r
dry_merge i o c x y l r p q = cc

-- A leaf is built.
built_leaf : (t : Table) (w : List Tree) (leaf : Tree) (x : Node) → t.nodes ≡ table_with w t.count → Lined t.count w → Ready w → t.count < 1023 →
    records leaf ≡ x ∷ [] → first leaf ≡ t.count → size leaf ≡ 1 → Numbered t.count leaf → Shaped leaf → dried leaf ≡ leaf →
    Building (record { nodes = set t.nodes t.count x; count = t.count + 1 }) (summary_of leaf ∷ map summary_of w) (leaf ∷ w)
built_leaf t w leaf x e h ready few rs f one num shaped dry =
    record {
      holds =
          cc (put_next (written w) t.count x (length_written w t.count h) few);
      lined = (subst (λ (b : ℕ). Numbered b leaf) (sym f) num, omega (arith, f, one), subst (λ (b : ℕ). Lined b w) (sym f) h);
      ready = (shaped, dry, ready);
      kept = refl;
    }

-- A merge is built.
built_merge : (t : Table) (rec : Record) (w : List Tree) → t.nodes ≡ table_with w t.count → Lined t.count w → Ready w → t.count < 1023 →
    leb 2 (length w) ≡ true → lands_in_sides rec w ≡ true → (not (open_sides w) || eqb rec.own 0) ≡ true → rec.own < 2 ^ 40 →
    Building (record { nodes = set t.nodes t.count (node_for Merge rec (map summary_of w)); count = t.count + 1 }) (merged_summaries (map summary_of w)) (joined t.count rec w)
built_merge t rec [] e h ready few two lands empty own = cc
built_merge t rec (r ∷ []) e h ready few two lands empty own = cc
built_merge t rec (r ∷ l ∷ w) e h ready few two lands empty own =
    let n : ℕ = t.count in
    let x : Node = node_for Merge rec (map summary_of (r ∷ l ∷ w)) in
    let U : List Node = replicate (1023 - (n + 1)) Unused in
    let both : (has_leaf rec.left l ≡ true) × (has_leaf rec.right r ≡ true) = and_parts _ _ lands in
    record {
      holds =
          ap (λ (ns : List Node). set ns n x) e ∙ put_next (written (r ∷ l ∷ w)) n x (length_written (r ∷ l ∷ w) n h) few
          ∙ ap (λ (ns : List Node). ns ++ U)
          (ap (λ (ns : List Node). ns ++ x ∷ []) (append_assoc (written w) (records l) (records r))
          ∙ append_assoc (written w) (records l ++ records r) (x ∷ []));
      lined = ((h.2.0, h.2.1, h.0, h.1), omega (arith, h.1, h.2.1), h.2.2);
      ready = (
        (ready.2.0, ready.0, own, both.0, both.1, λ opens. let o : eqb rec.own 0 ≡ true = grind (arith, nat_tests) in eqb-true _ _ o),
        dry_merge n rec.own (first r) rec.left rec.right l r ready.2.1 ready.1,
        ready.2.2,
      );
      kept = cc (outlets_sum r l w n h (omega arith));
    }

-- One record more of kind k is built.
built_kind : (k : Kind) (t : Table) (rec : Record) (w : List Tree) → t.nodes ≡ table_with w t.count → Lined t.count w → Ready w → t.count < 1023 →
    enough_wait k w ≡ true → landed k rec w ≡ true → open_is_empty k rec w ≡ true → rec.own < 2 ^ 40 →
    Building (record { nodes = set t.nodes t.count (node_for k rec (map summary_of w)); count = t.count + 1 }) (summaries_after k t.count (map summary_of w)) (grown_by k t.count rec w)
built_kind Basin t rec w e h ready few a b c own = built_leaf t w (basin t.count rec.own 0) _ e h ready few refl refl refl refl own refl
built_kind Outlet t rec w e h ready few a b c own = built_leaf t w (outlet t.count 0) _ e h ready few refl refl refl refl tt refl
built_kind Merge t rec w e h ready few a b c own = built_merge t rec w e h ready few a b c own

-- One record more is built.
pub built_more : (t : Table) (s : List Summary) (w : List Tree) (rec : Record) (at : ℕ) → Building t s w → t.count < 1023 → rec.own < 2 ^ 40 →
    first_no (tree_questions rec at w) ≡ None →
    Building (table_after t rec s) (summaries_after rec.kind t.count s) (grown t.count rec w)
built_more t s w rec at b few own all =
    let p = all_yes (tree_questions rec at w) all in
    subst (λ (x : List Summary). Building (table_after t rec x) (summaries_after rec.kind t.count x) (grown t.count rec w)) (sym b.kept)
    (built_kind rec.kind t rec w b.holds b.lined b.ready few p.0 p.1.0 p.1.1.0 own)
