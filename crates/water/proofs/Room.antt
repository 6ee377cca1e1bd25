-- What leaves a tree, by its room and its outlets.
use Rattle.std.proofs.Common.{◌≡◌, ℕ, ◌+◌, ◌-◌, true, false, ◌||◌, ◌⊎◌, refl, ap, ◌∙◌, inl, inr, ⊎_elim, arith}
use Rattle.std.proofs.lemmas.Bool.{cases_lt, or_parts, or_cases, false≢true, true≢false, cases_Bool, cond-true, cond-false}
use Rattle.water.specs.Tree.{Tree, basin, outlet, merge, is_open, volume, outlets}
use Rattle.water.specs.Formed.{Shaped, Formed}
use Rattle.water.specs.Sound.{Within, Sound}
use Rattle.water.specs.Pour.{poured, excess}
use Rattle.water.specs.Water.{held, outflow, closed_water, room}
use Rattle.water.proofs.Steps.{excess_basin, excess_outlet, excess_left, excess_right}
use Rattle.water.proofs.Order.{obeys}
use Rattle.water.proofs.Keep.{balance, sound_kept}

-- Three rooms one after another are one room.
rooms : (v s z k e f : ℕ) → e ≡ v - s → f ≡ e - z → f - k ≡ v - (s + z + k)
rooms v s z k e f p q = omega arith

pub closed_excess : (a v : ℕ) (t : Tree) → is_open t ≡ false → excess a v t ≡ v - room t
closed_excess a v (basin n o w) h = excess_basin a v n o w
closed_excess a v (outlet n w) h = absurd (true≢false h)
closed_excess a v (merge n o w c x y l r) h =
    let p = or_parts (is_open l) (is_open r) h in
    let l1 = closed_excess a v l p.0 in
    let r1 = closed_excess y (excess a v l) r p.1 in
    let r2 = closed_excess a v r p.1 in
    let l2 = closed_excess x (excess a v r) l p.0 in
    ⊎_elim
    (λ s. excess_left a v n o w c x y l r s ∙ rooms v (room l) (room r) (o - w) (excess a v l) (excess y (excess a v l) r) l1 r1)
    (λ s. excess_right a v n o w c x y l r s ∙ (let e = rooms v (room r) (room l) (o - w) (excess a v r) (excess x (excess a v r) l) r2 l2 in omega arith))
    (cases_lt a c)

-- Nothing comes out where nothing goes in, or through a side that lets nothing out.
through : (e f k : ℕ) (y : ℕ) (z : Tree) → f ≡ excess y e z → (e ≡ 0) ⊎ (f ≡ 0) → f - k ≡ 0
through e f k y z p = ⊎_elim
    (λ (q : e ≡ 0). let g : excess y e z ≡ excess y 0 z = ap (λ (i : ℕ). excess y i z) q in let h = (obeys z).none_out y in omega arith)
    (λ (q : f ≡ 0). omega arith)

pub open_excess : (a v : ℕ) (t : Tree) → is_open t ≡ true → excess a v t ≡ 0
open_excess a v (basin n o w) h = absurd (false≢true h)
open_excess a v (outlet n w) h = excess_outlet a v n w
open_excess a v (merge n o w c x y l r) h =
    let l1 = open_excess a v l in
    let r1 = open_excess y (excess a v l) r in
    let r2 = open_excess a v r in
    let l2 = open_excess x (excess a v r) l in
    let p = or_cases (is_open l) (is_open r) h in
    ⊎_elim
    (λ s. excess_left a v n o w c x y l r s
    ∙ through (excess a v l) (excess y (excess a v l) r) (o - w) y r refl (⊎_elim (λ i. inl (l1 i)) (λ i. inr (r1 i)) p))
    (λ s. excess_right a v n o w c x y l r s
    ∙ through (excess a v r) (excess x (excess a v r) l) (o - w) x l refl (⊎_elim (λ i. inr (l2 i)) (λ i. inl (r2 i)) p))
    (cases_lt a c)

pub room_is : (t : Tree) → is_open t ≡ false → Within t → held t + room t ≡ volume t
room_is (basin n o w) h k = omega arith
room_is (outlet n w) h k = absurd (true≢false h)
room_is (merge n o w c x y l r) h k =
    let p = or_parts (is_open l) (is_open r) h in
    let pl = room_is l p.0 k.0 in
    let pr = room_is r p.1 k.1 in
    let q = k.2 in
    omega arith

pub held_split : (t : Tree) → Shaped t → Within t → held t ≡ closed_water t + outflow t
held_split (basin n o w) s h = omega arith
held_split (outlet n w) s h = omega arith
held_split (merge n o w c x y l r) s h =
    let pl = held_split l s.0 h.0 in
    let pr = held_split r s.1 h.1 in
    let q = h.2 in
    ⊎_elim
    (λ (i : (is_open l || is_open r) ≡ true).
    let o0 = s.5 i in
    let k = cond-true (is_open l || is_open r) 0 w i in
    omega arith)
    (λ (i : (is_open l || is_open r) ≡ false).
    let k = cond-false (is_open l || is_open r) 0 w i in
    omega arith)
    (cases_Bool (is_open l || is_open r))

-- A tree with an outlet is open.
pub outlet_opens : (t : Tree) → is_open t ≡ false → outlets t ≡ 0
outlet_opens (basin n o w) h = refl
outlet_opens (outlet n w) h = absurd (true≢false h)
outlet_opens (merge n o w c x y l r) h =
    let p = or_parts (is_open l) (is_open r) h in
    let pl = outlet_opens l p.0 in
    let pr = outlet_opens r p.1 in
    omega arith

pub formed_open : (t : Tree) → Formed t → is_open t ≡ true
formed_open t h = ⊎_elim (λ (p : is_open t ≡ true). p)
    (λ (p : is_open t ≡ false). let k = outlet_opens t p in let j = h.outlet in absurd (omega arith))
    (cases_Bool (is_open t))

pub site_balance : (a v : ℕ) (t : Tree) → Sound t
    → closed_water (poured a v t) + outflow (poured a v t) ≡ closed_water t + outflow t + v
site_balance a v t h =
    let k = sound_kept a v t h in
    let p = held_split t h.formed.shaped h.within in
    let q = held_split (poured a v t) k.formed.shaped k.within in
    let b = balance a v t in
    let e = open_excess a v t (formed_open t h.formed) in
    omega arith
