-- What callers may say of a stack's answers, in words of their own.
use Rattle.std.proofs.Common.{◌≡◌, ℕ, ◌<◌, ◌≤◌, List, [], ◌∷◌, length, Some, None, Ok, Err, Option, Result, refl, ap, arith}
use Rattle.stack.specs.Stack.{Popped, Pushed}

module _ {X : Type 0} where
  -- Where there is room, an item goes on top.
  pub pushed_with_room : (item : X) (room : ℕ) (before : List X) (r : Result (Unit {0}) X) (after : List X) → Pushed item room before r after → length before < room → (r ≡ Ok tt) × (after ≡ item ∷ before)
  pushed_with_room item room before (Ok done) after p free = (refl, p.items)
  pushed_with_room item room before (Err back) after p free = let z : ⊥ = omega (arith, p.full) in absurd z

  -- Where there is no room, the item comes back.
  pub pushed_without_room : (item : X) (room : ℕ) (before : List X) (r : Result (Unit {0}) X) (after : List X) → Pushed item room before r after → room ≤ length before → (r ≡ Err item) × (after ≡ before)
  pushed_without_room item room before (Ok done) after p full = let z : ⊥ = omega (arith, p.free) in absurd z
  pushed_without_room item room before (Err back) after p full = (ap Err p.back, p.kept)

  -- Of some items the newest comes off.
  pub popped_some : (item : X) (items : List X) (r : Option X) (after : List X) → Popped (item ∷ items) r after → (r ≡ Some item) × (after ≡ items)
  popped_some item items (Some x) after p = (let e : ◌≡◌ {A = X} x item = cc in ap Some e, cc)
  popped_some item items None after p = let e : item ∷ items ≡ [] = p.empty in (cc, cc)

  -- Of no items none comes off.
  pub popped_none : (r : Option X) (after : List X) → Popped [] r after → (r ≡ None) × (after ≡ [])
  popped_none (Some x) after p = (cc, cc)
  popped_none None after p = (refl, p.kept)
