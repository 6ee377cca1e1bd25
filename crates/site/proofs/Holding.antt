-- What a site's invariant tells of its table.
use Rattle.std.proofs.Common.{◌≡◌, ℕ, ◌-◌, ◌^◌, ◌<◌, ◌≤◌, List, take, replicate, ap, ◌∙◌, arith}
use Rattle.std.proofs.lemmas.List.{take_at}
use Rattle.water.specs.Tree.{Tree, size}
use Rattle.water.specs.State.{State}
use Rattle.site.specs.Held.{Holds, tabled}
use Rattle.site.specs.Measures.{drained_sum, own_sum}
use Rattle.site.specs.Records.{records}
use Rattle.site.specs.declared.node.Node.{Node}
use Rattle.site.specs.declared.node.Node.TheVariants.{Unused}
use Rattle.site.specs.declared.table.Table.{Table}
use Rattle.site.proofs.Measured.{outflow_few, outflow_is_lem, volume_few, volume_is}
use Rattle.site.proofs.Trees.{length_records, size_pos}

-- The used part of a tree's table is its records.
used_is : (table : Table) (t : Tree) → table ≡ tabled t → take table.count table.nodes ≡ records t
used_is table t e =
    ap (λ (x : Table). take x.count x.nodes) e ∙ take_at (records t) (replicate (1023 - size t) Unused) (size t) (length_records t)

module _ {table : Table} {a p : ℕ} {s : State} (h : Holds table a p s) where
  pub counted : table.count ≡ size s.tree
  counted = ap (λ (x : Table). x.count) h.tree

  -- Every site has at most 1,023 records.
  pub held_few : table.count ≤ 1023
  held_few = omega (arith, counted, h.stands.sound.formed.few)

  -- Every site has a record.
  pub held_some : 0 < table.count
  held_some = omega (arith, counted, size_pos s.tree)

  module _ {xs : List Node} (e : xs ≡ take table.count table.nodes) where
    pub used : xs ≡ records s.tree
    used = e ∙ used_is table s.tree h.tree

    pub used_own : own_sum xs < 2 ^ 64
    used_own =
        omega (arith, ap own_sum used, volume_is s.tree, volume_few s.tree h.stands.sound.formed.shaped, h.stands.sound.formed.few)

    pub used_drained : drained_sum xs < 2 ^ 64
    used_drained =
        omega (arith, ap drained_sum used, outflow_is_lem s.tree, outflow_few s.tree, h.stands.balance, h.stands.limit)
