-- A site's table holds its whole tree, from the first place on.
use Rattle.std.proofs.Common.{◌≡◌, ℕ, ◌+◌, ◌-◌, ◌^◌, ◌≤◌, Bool, [], replicate, sym, refl, ap, ◌∙◌, arith}
use Rattle.water.specs.Tree.{size, has_leaf}
use Rattle.water.specs.State.{State}
use Rattle.water.proofs.Numbers.{last_number}
use Rattle.site.specs.Held.{Holds}
use Rattle.site.specs.Loader.{leaf_among}
use Rattle.site.specs.Subtree.{Rooted, Subtree, SurveyedAt}
use Rattle.site.specs.Surveys.{survey_of}
use Rattle.site.specs.declared.node.Node.TheVariants.{Unused}
use Rattle.site.specs.declared.node.Survey.{Survey}
use Rattle.site.specs.declared.table.Table.{Table}
use Rattle.site.proofs.Holding.{counted, held_few}
use Rattle.site.proofs.Trees.{among}

module _ {table : Table} {a p : ℕ} {s : State} (h : Holds table a p s) where
  -- The leaves of the tree are found in the table.
  leaf_found : (k : ℕ) → leaf_among table.nodes k 0 table.count ≡ has_leaf k s.tree
  leaf_found k =
      among table.nodes [] (replicate (1023 - size s.tree) Unused) s.tree k 0 table.count (ap (λ (x : Table). x.nodes) h.tree) refl
      h.stands.sound.formed.numbered (counted h ∙ omega arith) (held_few h)

  -- What the table says of a leaf is what the tree says.
  pub leaf_said : (k : ℕ) {n : ℕ} {b d : Bool} → n ≡ table.count → b ≡ leaf_among table.nodes k 0 n → b ≡ d → has_leaf k s.tree ≡ d
  leaf_said k e f g =
      sym (leaf_found k) ∙ ap (λ (m : ℕ). leaf_among table.nodes k 0 m) (sym e) ∙ sym f ∙ g

  module _ {top : ℕ} (last : top + 1 ≡ size s.tree) where
    -- The tree stands in the table from its first place on.
    pub whole : Subtree table.nodes top [] s.tree (replicate (1023 - size s.tree) Unused)
    whole =
        record {
          stands = ap (λ (x : Table). x.nodes) h.tree;
          numbered = h.stands.sound.formed.numbered;
          top = omega (arith, last, (last_number 0 s.tree h.stands.sound.formed.numbered).0);
        }

    -- The water of a site can be counted, with all the rain that is accepted.
    pub site_rooted : (v : ℕ) → s.accepted + v ≤ 2 ^ 60 → ∥ Rooted table.nodes top v ∥₁
    site_rooted v most =
        ∣ ([], s.tree, replicate (1023 - size s.tree) Unused, whole, omega (arith, h.stands.balance, most)) ∣₁

    -- What is seen from the top of the whole tree is the tree's.
    pub site_seen : (leaf : ℕ) {seen : Survey} → SurveyedAt table.nodes top leaf seen → seen ≡ survey_of leaf s.tree
    site_seen leaf w = w [] s.tree (replicate (1023 - size s.tree) Unused) whole
