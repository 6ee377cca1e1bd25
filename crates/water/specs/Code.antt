-- How a proof tells trees and states apart: a tree is coded as the list of its records in postorder.
use Rattle.std.specs.Prelude.{◌≡◌, ℕ, ◌⊎◌, List, [], ◌∷◌, ◌++◌, refl}
use Rattle.std.specs.Coded.{Coded, code_by, coded×, coded⊎, coded_list, coded_ℕ}
use Rattle.std.proofs.Common.{ap, ◌∙◌, inl, inr}
use Rattle.water.specs.Tree.{Tree, basin, outlet, merge}
use Rattle.water.specs.State.{State}
use Rattle.water.specs.Waiting.{newest, two_joined}

-- What a record says of itself: of a basin, an outlet or a merge all its numbers.
abbrev Said : Type 0
Said = (ℕ × (ℕ × ℕ)) ⊎ ((ℕ × ℕ) ⊎ ((ℕ × (ℕ × ℕ)) × (ℕ × (ℕ × ℕ))))

-- The records of a tree: the left side, the right side, the record itself.
abbrev all_said : Tree → List Said
all_said (basin n o w) = inl (n, (o, w)) ∷ []
all_said (outlet n w) = inr (inl (n, w)) ∷ []
all_said (merge n o w c x y l r) = all_said l ++ (all_said r ++ (inr (inr ((n, (o, w)), (c, (x, y)))) ∷ []))

-- The trees that wait after one record more, the newest first.
abbrev after : Said → List Tree → List Tree
after (inl p) s = basin p.0 p.1.0 p.1.1 ∷ s
after (inr (inl p)) s = outlet p.0 p.1 ∷ s
after (inr (inr p)) s = two_joined (merge p.0.0 p.0.1.0 p.0.1.1 p.1.0 p.1.1.0 p.1.1.1) s

-- The trees that wait after a list of records.
abbrev after_all : List Said → List Tree → List Tree
after_all [] s = s
after_all (x ∷ xs) s = after_all xs (after x s)

-- The tree that a list of records gives back.
abbrev given_back : List Said → Tree
given_back xs = newest (after_all xs [])

after_two : (xs ys : List Said) (s : List Tree) → after_all (xs ++ ys) s ≡ after_all ys (after_all xs s)
after_two [] ys s = refl
after_two (x ∷ xs) ys s = after_two xs ys (after x s)

after_tree : (t : Tree) (s : List Tree) → after_all (all_said t) s ≡ t ∷ s
after_tree (basin n o w) s = refl
after_tree (outlet n w) s = refl
after_tree (merge n o w c x y l r) s =
    let m : List Said = inr (inr ((n, (o, w)), (c, (x, y)))) ∷ [] in
    after_two (all_said l) (all_said r ++ m) s
    ∙ after_two (all_said r) m (after_all (all_said l) s)
    ∙ ap (λ (k : List Tree). after_all m (after_all (all_said r) k)) (after_tree l s)
    ∙ ap (λ (k : List Tree). after_all m k) (after_tree r (l ∷ s))

-- Its records give every tree back.
pub tree_given_back : (t : Tree) → given_back (all_said t) ≡ t
tree_given_back t = ap newest (after_tree t [])

abbrev said_code : Coded Said
said_code =
    coded⊎ (coded× coded_ℕ (coded× coded_ℕ coded_ℕ))
    (coded⊎ (coded× coded_ℕ coded_ℕ) (coded× (coded× coded_ℕ (coded× coded_ℕ coded_ℕ)) (coded× coded_ℕ (coded× coded_ℕ coded_ℕ))))

abbrev pub tree_code : Coded Tree
tree_code = code_by (List Said) (coded_list said_code) all_said given_back tree_given_back

-- A state is coded as its tree and its sums.
abbrev pub state_code : Coded State
state_code =
    code_by (Tree × (ℕ × ℕ)) (coded× tree_code (coded× coded_ℕ coded_ℕ)) (λ s. (s.tree, (s.accepted, s.pumped)))
    (λ p. record { tree = p.0; accepted = p.1.0; pumped = p.1.1 }) (λ _. refl)
