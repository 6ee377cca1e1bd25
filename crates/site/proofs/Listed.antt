-- The records of a tree in postorder.
use Rattle.std.proofs.Common.{◌≡◌, ℕ, ◌+◌, true, eqb, List, [], ◌∷◌, ◌++◌, sym, refl, ap, ◌∙◌, arith}
use Rattle.std.proofs.lemmas.List.{append_assoc}
use Rattle.std.proofs.lemmas.Bool.{and_parts, eqb-true}
use Rattle.terrain.specs.Record.{volume_fits}
use Rattle.terrain.specs.declared.record.Kind.{Kind}
use Rattle.terrain.specs.declared.record.Kind.TheVariants.{Basin, Merge, Outlet}
use Rattle.terrain.specs.declared.record.Record.{Record}
use Rattle.water.specs.Formed.{Numbered}
use Rattle.water.specs.Tree.{Tree, basin, outlet, merge, size, first, dried}
use Rattle.site.specs.Building.{listed}
use Rattle.site.specs.Postorder.{postorder}
use Rattle.site.specs.Questions.{enough_wait, landed}
use Rattle.site.specs.Spell.{grown, grown_by, joined}
use Rattle.site.proofs.Trees.{first_is}

same_record : (k : Kind) (x y o : ℕ) (rec : Record) → rec.kind ≡ k → rec.left ≡ x → rec.right ≡ y → rec.own ≡ o →
    record { kind = k; left = x; right = y; own = o } ≡ rec
same_record k x y o rec ke xe ye oe = λ i. record { kind = sym ke i; left = sym xe i; right = sym ye i; own = sym oe i }

listed_merge : (i : ℕ) (rec : Record) (w : List Tree) → rec.kind ≡ Merge → enough_wait Merge w ≡ true → listed (joined i rec w) ≡ listed w ++ (rec ∷ [])
listed_merge i rec [] ke h = cc
listed_merge i rec (r ∷ []) ke h = cc
listed_merge i rec (r ∷ l ∷ w) ke h =
    let m : record { kind = Merge; left = rec.left; right = rec.right; own = rec.own } ≡ rec = same_record Merge rec.left rec.right rec.own rec ke refl refl refl in
    ap (λ (x : Record). listed w ++ ((postorder l ++ postorder r) ++ (x ∷ []))) m
    ∙ sym (append_assoc (listed w) (postorder l ++ postorder r) (rec ∷ []))
    ∙ ap (λ (x : List Record). x ++ (rec ∷ [])) (sym (append_assoc (listed w) (postorder l) (postorder r)))

listed_kind : (k : Kind) (i : ℕ) (rec : Record) (w : List Tree) → rec.kind ≡ k → enough_wait k w ≡ true → landed k rec w ≡ true → volume_fits k rec.own ≡ true →
    listed (grown_by k i rec w) ≡ listed w ++ (rec ∷ [])
listed_kind Basin i rec w ke two lands fits =
    let p = and_parts (eqb rec.left 0) (eqb rec.right 0) lands in
    ap (λ (x : Record). listed w ++ (x ∷ [])) (same_record Basin 0 0 rec.own rec ke (eqb-true _ _ p.0) (eqb-true _ _ p.1) refl)
listed_kind Outlet i rec w ke two lands fits =
    let p = and_parts (eqb rec.left 0) (eqb rec.right 0) lands in
    ap (λ (x : Record). listed w ++ (x ∷ [])) (same_record Outlet 0 0 0 rec ke (eqb-true _ _ p.0) (eqb-true _ _ p.1) (eqb-true _ _ fits))
listed_kind Merge i rec w ke two lands fits = listed_merge i rec w ke two

-- A record that passed its questions is one more in the list.
pub listed_more : (i : ℕ) (rec : Record) (w : List Tree) → enough_wait rec.kind w ≡ true → landed rec.kind rec w ≡ true → volume_fits rec.kind rec.own ≡ true →
    listed (grown i rec w) ≡ listed w ++ (rec ∷ [])
listed_more i rec w two lands fits = listed_kind rec.kind i rec w refl two lands fits

-- The subtrees that wait after a list of records, numbered from b on.
abbrev spelled_from : ℕ → List Record → List Tree → List Tree
spelled_from b [] w = w
spelled_from b (x ∷ xs) w = spelled_from (b + 1) xs (grown b x w)

-- The records of a dry tree spell that tree.
spells_back : (t : Tree) (b : ℕ) (rest : List Record) (w : List Tree) → Numbered b t → dried t ≡ t →
    spelled_from b (postorder t ++ rest) w ≡ spelled_from (b + size t) rest (t ∷ w)
spells_back (basin n o x) b rest w h d =
    let z : x ≡ 0 = cc in
    ap (λ (t : Tree). spelled_from (b + 1) rest (t ∷ w)) (ap (λ (k : ℕ). basin k o 0) (sym h) ∙ ap (basin n o) (sym z))
spells_back (outlet n x) b rest w h d =
    let z : x ≡ 0 = cc in
    ap (λ (t : Tree). spelled_from (b + 1) rest (t ∷ w)) (ap (λ (k : ℕ). outlet k 0) (sym h) ∙ ap (outlet n) (sym z))
spells_back (merge n o x c p q l r) b rest w h d =
    let z : x ≡ 0 = cc in
    let dl : dried l ≡ l = cc in
    let dr : dried r ≡ r = cc in
    let m : Record = record { kind = Merge; left = p; right = q; own = o } in
    ap (λ (s : List Record). spelled_from b s w)
    (append_assoc (postorder l ++ postorder r) (m ∷ []) rest ∙ append_assoc (postorder l) (postorder r) (m ∷ rest))
    ∙ spells_back l b (postorder r ++ (m ∷ rest)) w h.0 dl
    ∙ ap (λ (k : ℕ). spelled_from k (postorder r ++ (m ∷ rest)) (l ∷ w)) (sym h.1)
    ∙ spells_back r c (m ∷ rest) (l ∷ w) h.2 dr
    ∙ ap (λ (t : Tree). spelled_from (c + size r + 1) rest (t ∷ w))
    (ap (λ (k : ℕ). merge k o 0 (first r) p q l r) (sym h.3) ∙ ap (λ (k : ℕ). merge n o 0 k p q l r) (first_is r c h.2) ∙ ap (λ (k : ℕ). merge n o k c p q l r) (sym z))
    ∙ ap (λ (k : ℕ). spelled_from k rest (merge n o x c p q l r ∷ w)) (omega (arith, h.1))

-- Two dry trees with the same records in postorder are one.
pub one_postorder : (t u : Tree) → Numbered 0 t → Numbered 0 u → dried t ≡ t → dried u ≡ u → postorder t ≡ postorder u → t ≡ u
one_postorder t u ht hu dt du e =
    let p : spelled_from 0 (postorder t ++ []) [] ≡ t ∷ [] = spells_back t 0 [] [] ht dt in
    let q : spelled_from 0 (postorder u ++ []) [] ≡ u ∷ [] = spells_back u 0 [] [] hu du in
    let s : t ∷ [] ≡ u ∷ [] = sym p ∙ ap (λ (x : List Record). spelled_from 0 (x ++ []) []) e ∙ q in
    cc
