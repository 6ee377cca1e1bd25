-- Rain on a site is rain on the tree that its table holds.
use Rattle.std.proofs.Common.{◌≡◌, ℕ, ◌+◌, ◌-◌, ◌^◌, ◌≤◌, List, [], ◌∷◌, ◌++◌, Ok, replicate, sym, ap, ◌∙◌, ap₂, arith}
use Rattle.questions.specs.Ask.{first_no, verdict}
use Rattle.water.specs.Tree.{Tree, size}
use Rattle.water.specs.Pour.{poured}
use Rattle.water.specs.State.{State}
use Rattle.water.specs.Calls.{level_questions, limit_question, rained_on}
use Rattle.water.specs.declared.units.Leaf.{Leaf}
use Rattle.water.specs.declared.units.Litres.{Litres}
use Rattle.water.proofs.Answered.{leaf_at, rain_counted}
use Rattle.water.proofs.Calling.{rained_stands}
use Rattle.water.proofs.Shape.{shape_kept, size_same}
use Rattle.site.specs.Held.{Holds}
use Rattle.site.specs.Records.{records}
use Rattle.site.specs.Subtree.{PouredAt}
use Rattle.site.specs.declared.node.Node.{Node}
use Rattle.site.specs.declared.node.Node.TheVariants.{Unused}
use Rattle.site.specs.declared.table.Table.{Table}
use Rattle.site.proofs.Holding.{counted}
use Rattle.site.proofs.Whole.{whole}

-- The leaf and the litres asked for have passed their questions, and the litres were poured at the top of the whole
-- tree: the table and the sums hold the state that the rain leaves.
pub rained_holds : {table new : Table} {a p k top at over : ℕ} (leaf : Leaf) (v : Litres) (s : State) → Holds table a p s →
    Ok at ≡ verdict (first_no (level_questions leaf s)) leaf.0 → Ok k ≡ verdict (first_no (limit_question v a ∷ [])) (a + v.0) →
    top + 1 ≡ size s.tree → PouredAt table.nodes top at v.0 new.nodes over → new.count ≡ table.count →
    Holds new k p (rained_on leaf v s)
rained_holds {table} {new} {a} {p} {k} {at = at} leaf v s h is_leaf is_counted last w same =
    let t : Tree = s.tree in
    let u : Tree = poured leaf.0 v.0 t in
    let z : size u ≡ size t = size_same u t (shape_kept leaf.0 v.0 t) in
    let most : (k ≡ a + v.0) × (a + v.0 ≤ 2 ^ 60) = rain_counted v a k is_counted in
    let nodes : new.nodes ≡ records u ++ replicate (1023 - size t) Unused =
    w.water [] t (replicate (1023 - size t) Unused) (whole h last)
    ∙ ap (λ (i : ℕ). records (poured i v.0 t) ++ replicate (1023 - size t) Unused) (leaf_at leaf s at is_leaf) in
    record {
      tree =
          ap₂ (λ (ns : List Node) (i : ℕ). record { nodes = ns; count = i })
          (nodes ∙ ap (λ (i : ℕ). records u ++ replicate (1023 - i) Unused) (sym z)) (same ∙ counted h ∙ sym z);
      accepted = most.0 ∙ ap (λ (i : ℕ). i + v.0) h.accepted;
      pumped = h.pumped;
      stands = rained_stands leaf v s h.stands (omega (arith, h.accepted, most.1));
    }
