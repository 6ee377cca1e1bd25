-- Pouring into a subtree in its place, side after side.
use Rattle.std.proofs.Common.{◌≡◌, ℕ, ◌-◌, ◌<◌, ◌≤◌, List, [], ◌∷◌, ◌++◌, get_or, set, sym, refl, ap, ◌∙◌, subst, ⊎_elim, arith}
use mathlib.Core.Logic.{∥∥₁_elim, ∥∥₁_map}
use native.Mathlib.Bridge.{le_prop}
use Rattle.std.proofs.lemmas.Bool.{cases_lt}
use Rattle.water.specs.Tree.{Tree, basin, outlet, merge}
use Rattle.water.specs.Pour.{excess, poured}
use Rattle.water.specs.Water.{held}
use Rattle.water.proofs.Order.{obeys}
use Rattle.water.proofs.Shape.{shape_kept}
use Rattle.water.proofs.Steps.{excess_basin, excess_outlet, excess_left, excess_right, poured_basin, poured_outlet, poured_left, poured_right}
use Rattle.site.specs.Filling.{drained, filled_node, over_node}
use Rattle.site.specs.Records.{records}
use Rattle.site.specs.Subtree.{PouredAt, Rooted, SidesFrom, Subtree}
use Rattle.site.specs.declared.node.Node.{Node}
use Rattle.site.specs.declared.node.Node.TheVariants.{Unused, Merge}
use Rattle.site.proofs.Places.{top_node, as_merge, below, at_top_lem, set_top, left_in, right_in, left_changed, right_changed}
use Rattle.site.proofs.Trees.{size_pos}

-- No more leaves a tree than fell.
pub excess_few : (a v : ℕ) (t : Tree) → excess a v t ≤ v
excess_few a v (basin n o w) = omega (arith, excess_basin a v n o w)
excess_few a v (outlet n w) = omega (arith, excess_outlet a v n w)
excess_few a v (merge n o w c x y l r) =
    ⊎_elim
    (λ h. omega (arith, excess_left a v n o w c x y l r h, excess_few y (excess a v l) r, excess_few a v l))
    (λ h. omega (arith, excess_right a v n o w c x y l r h, excess_few x (excess a v r) l, excess_few a v r))
    (cases_lt a c)

-- What v litres do to a merge in its place: they come to a first side, what it lets out to a second, and what that
-- lets out to the merge's own record.
pub record Runs (nodes : List Node) (root : ℕ) (before : List Node) (t : Tree) (after : List Node) (leaf v first second landing : ℕ) : Type 0 where
  pub before_first : List Node
  pub one : Tree
  pub after_first : List Node
  pub before_second : List Node
  pub two : Tree
  pub after_second : List Node
  pub in_first : Subtree nodes first before_first one after_first
  pub in_second : (ns : List Node) → ns ≡ before_first ++ (records (poured leaf v one) ++ after_first) → Subtree ns second before_second two after_second
  pub at_top : (ns ms : List Node) → ns ≡ before_first ++ (records (poured leaf v one) ++ after_first) →
      ms ≡ before_second ++ (records (poured landing (excess leaf v one) two) ++ after_second) → get_or ms root Unused ≡ top_node t
  pub pours_top : (ns ms : List Node) → ns ≡ before_first ++ (records (poured leaf v one) ++ after_first) →
      ms ≡ before_second ++ (records (poured landing (excess leaf v one) two) ++ after_second) →
      set ms root (filled_node (excess landing (excess leaf v one) two) (top_node t)) ≡ before ++ (records (poured leaf v t) ++ after)
  pub rest : over_node (excess landing (excess leaf v one) two) (top_node t) ≡ excess leaf v t
  pub less_first : first < root
  pub less_second : second < root
  pub held_first : held one ≤ held t
  pub held_second : held two ≤ held t

-- The leaf is on the left.
runs_left : (nodes : List Node) (root : ℕ) (before : List Node) (n o w c x y : ℕ) (l r : Tree) (after : List Node) (leaf v : ℕ) →
    Subtree nodes root before (merge n o w c x y l r) after → leaf < c →
    Runs nodes root before (merge n o w c x y l r) after leaf v (c - 1) (root - 1) y
runs_left nodes root before n o w c x y l r after leaf v s h =
    let l' : Tree = poured leaf v l in
    let e : ℕ = excess leaf v l in
    let r' : Tree = poured y e r in
    let m : Node = Merge o w c x y in
    let s1 : (ns : List Node) → ns ≡ before ++ (records l' ++ (records r ++ (m ∷ after))) → Subtree ns root before (merge n o w c x y l' r) after =
    λ ns p. left_changed nodes root before n o w c x y l r after s l' (shape_kept leaf v l) ns p in
    let s2 : (ns ms : List Node) → ns ≡ before ++ (records l' ++ (records r ++ (m ∷ after))) → ms ≡ (before ++ records l') ++ (records r' ++ (m ∷ after)) →
    Subtree ms root before (merge n o w c x y l' r') after =
    λ ns ms p q. right_changed ns root before n o w c x y l' r after (s1 ns p) r' (shape_kept y e r) ms q in
    record {
      before_first = before;
      one = l;
      after_first = records r ++ (m ∷ after);
      before_second = before ++ records l';
      two = r;
      after_second = m ∷ after;
      in_first = left_in nodes root before n o w c x y l r after s;
      in_second = λ ns p. right_in ns root before n o w c x y l' r after (s1 ns p);
      at_top = λ ns ms p q. at_top_lem ms root before (merge n o w c x y l' r') after (s2 ns ms p q);
      pours_top = λ ns ms p q.
          set_top ms root before (merge n o w c x y l' r') after (s2 ns ms p q) (filled_node (excess y e r) m)
          ∙ ap (λ (t : Tree). before ++ (records t ++ after)) (sym (poured_left leaf v n o w c x y l r h));
      rest = sym (excess_left leaf v n o w c x y l r h);
      less_first = omega (arith, s.numbered.3, s.top, size_pos r, s.numbered.1, size_pos l);
      less_second = omega (arith, s.numbered.3, s.top, size_pos r);
      held_first = omega arith;
      held_second = omega arith;
    }

-- The leaf is on the right.
runs_right : (nodes : List Node) (root : ℕ) (before : List Node) (n o w c x y : ℕ) (l r : Tree) (after : List Node) (leaf v : ℕ) →
    Subtree nodes root before (merge n o w c x y l r) after → c ≤ leaf →
    Runs nodes root before (merge n o w c x y l r) after leaf v (root - 1) (c - 1) x
runs_right nodes root before n o w c x y l r after leaf v s h =
    let r' : Tree = poured leaf v r in
    let e : ℕ = excess leaf v r in
    let l' : Tree = poured x e l in
    let m : Node = Merge o w c x y in
    let s1 : (ns : List Node) → ns ≡ (before ++ records l) ++ (records r' ++ (m ∷ after)) → Subtree ns root before (merge n o w c x y l r') after =
    λ ns p. right_changed nodes root before n o w c x y l r after s r' (shape_kept leaf v r) ns p in
    let s2 : (ns ms : List Node) → ns ≡ (before ++ records l) ++ (records r' ++ (m ∷ after)) → ms ≡ before ++ (records l' ++ (records r' ++ (m ∷ after))) →
    Subtree ms root before (merge n o w c x y l' r') after =
    λ ns ms p q. left_changed ns root before n o w c x y l r' after (s1 ns p) l' (shape_kept x e l) ms q in
    record {
      before_first = before ++ records l;
      one = r;
      after_first = m ∷ after;
      before_second = before;
      two = l;
      after_second = records r' ++ (m ∷ after);
      in_first = right_in nodes root before n o w c x y l r after s;
      in_second = λ ns p. left_in ns root before n o w c x y l r' after (s1 ns p);
      at_top = λ ns ms p q. at_top_lem ms root before (merge n o w c x y l' r') after (s2 ns ms p q);
      pours_top = λ ns ms p q.
          set_top ms root before (merge n o w c x y l' r') after (s2 ns ms p q) (filled_node (excess x e l) m)
          ∙ ap (λ (t : Tree). before ++ (records t ++ after)) (sym (poured_right leaf v n o w c x y l r h));
      rest = sym (excess_right leaf v n o w c x y l r h);
      less_first = omega (arith, s.numbered.3, s.top, size_pos r);
      less_second = omega (arith, s.numbered.3, s.top, size_pos r, s.numbered.1, size_pos l);
      held_first = omega arith;
      held_second = omega arith;
    }

-- The sides as the code has them.
runs_as : (nodes : List Node) (root : ℕ) (before : List Node) (t : Tree) (after : List Node) (leaf v first second landing f g k : ℕ) →
    (first ≡ f) × (second ≡ g) × (landing ≡ k) → Runs nodes root before t after leaf v f g k →
    Runs nodes root before t after leaf v first second landing
runs_as nodes root before t after leaf v first second landing f g k e run =
    subst (λ (i : ℕ). Runs nodes root before t after leaf v i second landing) (sym e.0)
    (subst (λ (i : ℕ). Runs nodes root before t after leaf v f i landing) (sym e.1)
    (subst (λ (i : ℕ). Runs nodes root before t after leaf v f g i) (sym e.2) run))

-- Where a merge stands in the table, pouring runs through its sides.
runs_merge : (nodes : List Node) (root : ℕ) (before : List Node) (n o w c x y : ℕ) (l r : Tree) (after : List Node) (leaf v first second landing : ℕ) →
    Subtree nodes root before (merge n o w c x y l r) after → SidesFrom leaf root c x y first second landing →
    Runs nodes root before (merge n o w c x y l r) after leaf v first second landing
runs_merge nodes root before n o w c x y l r after leaf v first second landing s d =
    ⊎_elim
    (λ h. runs_as nodes root before (merge n o w c x y l r) after leaf v first second landing (c - 1) (root - 1) y (d.leftward h)
    (runs_left nodes root before n o w c x y l r after leaf v s h))
    (λ h. runs_as nodes root before (merge n o w c x y l r) after leaf v first second landing (root - 1) (c - 1) x (d.rightward h)
    (runs_right nodes root before n o w c x y l r after leaf v s h))
    (cases_lt leaf c)

-- The table has a merge at `root`.
module _ (nodes : List Node) (root : ℕ) {o w c x y : ℕ} (is : get_or nodes root Unused ≡ Merge o w c x y) where
  is_top : (before : List Node) (t : Tree) (after : List Node) → Subtree nodes root before t after → top_node t ≡ Merge o w c x y
  is_top before t after s = sym (at_top_lem nodes root before t after s) ∙ is

  module _ (v : ℕ) {leaf first second landing : ℕ} (d : SidesFrom leaf root c x y first second landing) where
    runs : (before : List Node) (t : Tree) (after : List Node) → Subtree nodes root before t after →
        Runs nodes root before t after leaf v first second landing
    runs before t after s =
        let m = as_merge t o w c x y (is_top before t after s) in
        subst (λ (z : Tree). Runs nodes root before z after leaf v first second landing) (sym m.3)
        (runs_merge nodes root before m.0 o w c x y m.1 m.2 after leaf v first second landing (subst (λ (z : Tree). Subtree nodes root before z after) m.3 s) d)

    -- The first side can take what falls there.
    pub first_rooted : ∥ Rooted nodes root v ∥₁ → (first < root) × ∥ Rooted nodes first v ∥₁
    first_rooted h = (
      ∥∥₁_elim h le_prop (λ k. (runs k.0 k.1 k.2 k.3).less_first),
      ∥∥₁_map h (λ k. let u = runs k.0 k.1 k.2 k.3 in
          (u.before_first, u.one, u.after_first, u.in_first, omega (arith, k.4, u.held_first))),
    )

    module _ {ns : List Node} {spilled : ℕ} (p : PouredAt nodes first leaf v ns spilled) where
      -- The second side can take what the first lets out.
      pub second_rooted : ∥ Rooted nodes root v ∥₁ → (second < root) × ∥ Rooted ns second spilled ∥₁
      second_rooted h = (
        ∥∥₁_elim h le_prop (λ k. (runs k.0 k.1 k.2 k.3).less_second),
        ∥∥₁_map h (λ k. let u = runs k.0 k.1 k.2 k.3 in
            let e = p.rest u.before_first u.one u.after_first u.in_first in (
              u.before_second,
              u.two,
              u.after_second,
              u.in_second ns (p.water u.before_first u.one u.after_first u.in_first),
              omega (arith, k.4, u.held_second, e, excess_few leaf v u.one),
            )),
      )

      module _ {ms : List Node} {over : ℕ} (q : PouredAt ns second landing spilled ms over) where
        -- What the two sides leave at the top, and what filling the top then gives.
        finish : (before : List Node) (t : Tree) (after : List Node) → Subtree nodes root before t after →
            (drained (get_or ms root Unused) ≡ 0)
            × (set ms root (filled_node over (get_or ms root Unused)) ≡ before ++ (records (poured leaf v t) ++ after))
            × (over_node over (get_or ms root Unused) ≡ excess leaf v t)
        finish before t after s =
            let u = runs before t after s in
            let pw = p.water u.before_first u.one u.after_first u.in_first in
            let e = p.rest u.before_first u.one u.after_first u.in_first in
            let z = u.in_second ns pw in
            let qw : ms ≡ u.before_second ++ (records (poured landing (excess leaf v u.one) u.two) ++ u.after_second) =
            q.water u.before_second u.two u.after_second z ∙ ap (λ (k : ℕ). u.before_second ++ (records (poured landing k u.two) ++ u.after_second)) e in
            let f : over ≡ excess landing (excess leaf v u.one) u.two =
            q.rest u.before_second u.two u.after_second z ∙ ap (λ (k : ℕ). excess landing k u.two) e in
            let top : get_or ms root Unused ≡ top_node t = u.at_top ns ms pw qw in (
              ap drained (top ∙ is_top before t after s),
              ap (λ (k : Node). set ms root (filled_node over k)) top ∙ ap (λ (k : ℕ). set ms root (filled_node k (top_node t))) f ∙ u.pours_top ns ms pw qw,
              ap (over_node over) top ∙ ap (λ (k : ℕ). over_node k (top_node t)) f ∙ u.rest,
            )

        pub top_dry : ∥ Rooted nodes root v ∥₁ → drained (get_or ms root Unused) ≤ 0
        top_dry h = ∥∥₁_elim h le_prop (λ k. omega (arith, (finish k.0 k.1 k.2 k.3).0))

        pub pours_merge : {ks : List Node} {out : ℕ} → ks ≡ set ms root (filled_node over (get_or ms root Unused)) →
            out ≡ over_node over (get_or ms root Unused) → PouredAt nodes root leaf v ks out
        pours_merge e f =
            record {
              water = λ before t after s. e ∙ (finish before t after s).1;
              rest = λ before t after s. f ∙ (finish before t after s).2;
            }

-- What v litres do to a record in its place that is no merge.
pub record Alone (nodes : List Node) (root : ℕ) (before : List Node) (t : Tree) (after : List Node) (leaf v : ℕ) : Type 0 where
  pub water : set nodes root (filled_node v (get_or nodes root Unused)) ≡ before ++ (records (poured leaf v t) ++ after)
  pub rest : over_node v (get_or nodes root Unused) ≡ excess leaf v t
  pub drains : drained (get_or nodes root Unused) ≤ held t

-- A lone record takes what it has room for.
alone_as : (nodes : List Node) (root : ℕ) (before : List Node) (t : Tree) (after : List Node) (leaf v : ℕ) →
    Subtree nodes root before t after → below t ≡ [] → records (poured leaf v t) ≡ filled_node v (top_node t) ∷ [] →
    over_node v (top_node t) ≡ excess leaf v t → drained (top_node t) ≤ held t → Alone nodes root before t after leaf v
alone_as nodes root before t after leaf v s none p e d =
    let top : get_or nodes root Unused ≡ top_node t = at_top_lem nodes root before t after s in
    record {
      water =
          ap (λ (x : Node). set nodes root (filled_node v x)) top ∙ set_top nodes root before t after s (filled_node v (top_node t))
          ∙ ap (λ (xs : List Node). before ++ ((xs ++ (filled_node v (top_node t) ∷ [])) ++ after)) none
          ∙ ap (λ (xs : List Node). before ++ (xs ++ after)) (sym p);
      rest = ap (over_node v) top ∙ e;
      drains = omega (arith, ap drained top);
    }

pub alone : (nodes : List Node) (root leaf v : ℕ) → ((o w c x y : ℕ) → get_or nodes root Unused ≡ Merge o w c x y → ⊥) →
    (before : List Node) (t : Tree) (after : List Node) → Subtree nodes root before t after → Alone nodes root before t after leaf v
alone nodes root leaf v d before (basin n o w) after s =
    alone_as nodes root before (basin n o w) after leaf v s refl (ap records (poured_basin leaf v n o w)) (sym (excess_basin leaf v n o w)) (omega arith)
alone nodes root leaf v d before (outlet n w) after s =
    alone_as nodes root before (outlet n w) after leaf v s refl (ap records (poured_outlet leaf v n w)) (sym (excess_outlet leaf v n w)) (omega arith)
alone nodes root leaf v d before (merge n o w c x y l r) after s =
    absurd (d o w c x y (at_top_lem nodes root before (merge n o w c x y l r) after s))

-- Pouring nothing changes nothing.
pub nothing : (a v : ℕ) (t : Tree) → v ≡ 0 → (poured a v t ≡ t) × (excess a v t ≡ 0)
nothing a v t e =
    (ap (λ (k : ℕ). poured a k t) e ∙ (obeys t).none a, ap (λ (k : ℕ). excess a k t) e ∙ (obeys t).none_out a)
