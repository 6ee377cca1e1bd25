-- Pouring keeps the shape, and with it all that does not speak of water.
use Rattle.std.proofs.Common.{◌≡◌, ℕ, ◌+◌, ◌≤◌, Bool, ◌||◌, sym, refl, ap, ◌∙◌, subst, ap₂, ⊎_elim}
use Rattle.std.proofs.lemmas.Bool.{cases_lt}
use Rattle.water.specs.Tree.{Tree, basin, outlet, merge, size, outlets, is_open, has_leaf, volume, dried}
use Rattle.water.specs.Formed.{Numbered, Shaped, Formed}
use Rattle.water.specs.Parts.{number}
use Rattle.water.specs.Pour.{poured, excess}
use Rattle.water.proofs.Steps.{poured_basin, poured_outlet, poured_left, poured_right}

pub shape_kept : (a v : ℕ) (t : Tree) → dried (poured a v t) ≡ dried t
shape_kept a v (basin n o w) = ap dried (poured_basin a v n o w)
shape_kept a v (outlet n w) = ap dried (poured_outlet a v n w)
shape_kept a v (merge n o w c x y l r) =
    let pl = shape_kept a v l in
    let pr = shape_kept y (excess a v l) r in
    let ql = shape_kept x (excess a v r) l in
    let qr = shape_kept a v r in
    ⊎_elim
    (λ h. ap dried (poured_left a v n o w c x y l r h) ∙ ap₂ (λ (i j : Tree). merge n o 0 c x y i j) pl pr)
    (λ h. ap dried (poured_right a v n o w c x y l r h) ∙ ap₂ (λ (i j : Tree). merge n o 0 c x y i j) ql qr)
    (cases_lt a c)

size_dried : (t : Tree) → size (dried t) ≡ size t
size_dried (basin n o w) = refl
size_dried (outlet n w) = refl
size_dried (merge n o w c x y l r) = ap₂ (λ (i j : ℕ). i + j + 1) (size_dried l) (size_dried r)

outlets_dried : (t : Tree) → outlets (dried t) ≡ outlets t
outlets_dried (basin n o w) = refl
outlets_dried (outlet n w) = refl
outlets_dried (merge n o w c x y l r) = ap₂ (λ (i j : ℕ). i + j) (outlets_dried l) (outlets_dried r)

open_dried : (t : Tree) → is_open (dried t) ≡ is_open t
open_dried (basin n o w) = refl
open_dried (outlet n w) = refl
open_dried (merge n o w c x y l r) = ap₂ (λ (i j : Bool). i || j) (open_dried l) (open_dried r)

leaf_dried : (k : ℕ) (t : Tree) → has_leaf k (dried t) ≡ has_leaf k t
leaf_dried k (basin n o w) = refl
leaf_dried k (outlet n w) = refl
leaf_dried k (merge n o w c x y l r) = ap₂ (λ (i j : Bool). i || j) (leaf_dried k l) (leaf_dried k r)

volume_dried : (t : Tree) → volume (dried t) ≡ volume t
volume_dried (basin n o w) = refl
volume_dried (outlet n w) = refl
volume_dried (merge n o w c x y l r) = ap₂ (λ (i j : ℕ). i + j + o) (volume_dried l) (volume_dried r)

number_dried : (t : Tree) → number (dried t) ≡ number t
number_dried (basin n o w) = refl
number_dried (outlet n w) = refl
number_dried (merge n o w c x y l r) = refl

numbered_dried : (b : ℕ) (t : Tree) → (Numbered b t → Numbered b (dried t)) × (Numbered b (dried t) → Numbered b t)
numbered_dried b (basin n o w) = (λ h. h, λ h. h)
numbered_dried b (outlet n w) = (λ h. h, λ h. h)
numbered_dried b (merge n o w c x y l r) =
    let hl = numbered_dried b l in
    let hr = numbered_dried c r in
    let sl = size_dried l in
    let sr = size_dried r in (
      λ h. (hl.0 h.0, h.1 ∙ ap (λ (i : ℕ). b + i) (sym sl), hr.0 h.2, h.3 ∙ ap (λ (i : ℕ). c + i) (sym sr)),
      λ h. (hl.1 h.0, h.1 ∙ ap (λ (i : ℕ). b + i) sl, hr.1 h.2, h.3 ∙ ap (λ (i : ℕ). c + i) sr),
    )

shaped_dried : (t : Tree) → (Shaped t → Shaped (dried t)) × (Shaped (dried t) → Shaped t)
shaped_dried (basin n o w) = (λ h. h, λ h. h)
shaped_dried (outlet n w) = (λ h. h, λ h. h)
shaped_dried (merge n o w c x y l r) =
    let hl = shaped_dried l in
    let hr = shaped_dried r in
    let xl = leaf_dried x l in
    let yr = leaf_dried y r in
    let op = open_dried (merge n o w c x y l r) in (
      λ h. (hl.0 h.0, hr.0 h.1, h.2, xl ∙ h.3, yr ∙ h.4, λ k. h.5 (sym op ∙ k)),
      λ h. (hl.1 h.0, hr.1 h.1, h.2, sym xl ∙ h.3, sym yr ∙ h.4, λ k. h.5 (op ∙ k)),
    )

-- What drying leaves is the same for a tree and another of the same shape.
pub kept_same : {A : Type 0} (f : Tree → A) → ((t : Tree) → f (dried t) ≡ f t) → (s t : Tree) → dried s ≡ dried t → f s ≡ f t
kept_same f kept s t e = sym (kept s) ∙ ap f e ∙ kept t

pub size_same : (s t : Tree) → dried s ≡ dried t → size s ≡ size t
size_same = kept_same size size_dried

pub outlets_same : (s t : Tree) → dried s ≡ dried t → outlets s ≡ outlets t
outlets_same = kept_same outlets outlets_dried

pub open_same : (s t : Tree) → dried s ≡ dried t → is_open s ≡ is_open t
open_same = kept_same is_open open_dried

pub leaf_same : (k : ℕ) (s t : Tree) → dried s ≡ dried t → has_leaf k s ≡ has_leaf k t
leaf_same k = kept_same (has_leaf k) (leaf_dried k)

pub volume_same : (s t : Tree) → dried s ≡ dried t → volume s ≡ volume t
volume_same = kept_same volume volume_dried

pub number_same : (s t : Tree) → dried s ≡ dried t → number s ≡ number t
number_same = kept_same number number_dried

pub numbered_same : (b : ℕ) (s t : Tree) → dried s ≡ dried t → Numbered b s → Numbered b t
numbered_same b s t e h = (numbered_dried b t).1 (subst (λ (i : Tree). Numbered b i) e ((numbered_dried b s).0 h))

pub shaped_same : (s t : Tree) → dried s ≡ dried t → Shaped s → Shaped t
shaped_same s t e h = (shaped_dried t).1 (subst (λ (i : Tree). Shaped i) e ((shaped_dried s).0 h))

pub formed_same : (s t : Tree) → dried s ≡ dried t → Formed s → Formed t
formed_same s t e h = record {
  numbered = numbered_same 0 s t e h.numbered;
  shaped = shaped_same s t e h.shaped;
  outlet = sym (outlets_same s t e) ∙ h.outlet;
  few = subst (λ (k : ℕ). k ≤ 1023) (size_same s t e) h.few;
}
