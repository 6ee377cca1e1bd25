-- What a stack means: the list of its items, the newest first.
use Rattle.std.specs.Prelude.{◌≡◌, ℕ, ◌<◌, ◌≤◌, List, [], ◌∷◌, length, Some, None, Ok, Err, Option, Result}

-- The items on a stack, the newest first, and how many it can hold.
pub record Contents (T : Type 0) : Type 0 where
  pub items : List T
  pub room : ℕ

-- The newest of the items, if there is one.
abbrev pub newest : {T : Type 0} → List T → Option T
newest [] = None
newest (x ∷ xs) = Some x

-- There was room, and the item is on top.
pub record Added {T : Type 0} (item : T) (room : ℕ) (before after : List T) : Type 0 where
  pub free : length before < room
  pub items : after ≡ item ∷ before

-- There was no room: the item comes back, and the items are as they were.
pub record Full {T : Type 0} (item given_back : T) (room : ℕ) (before after : List T) : Type 0 where
  pub full : room ≤ length before
  pub back : given_back ≡ item
  pub kept : after ≡ before

-- There was no item, and there is none.
pub record Empty {T : Type 0} (before after : List T) : Type 0 where
  pub empty : before ≡ []
  pub kept : after ≡ before

-- What an answer to a push says of the items before and after it.
abbrev pub Pushed : {T : Type 0} → T → ℕ → List T → Result (Unit {0}) T → List T → Type 0
Pushed item room before (Ok _) after = Added item room before after
Pushed item room before (Err back) after = Full item back room before after

-- What an answer to a pop says of the items before and after it.
abbrev pub Popped : {T : Type 0} → List T → Option T → List T → Type 0
Popped before (Some item) after = before ≡ item ∷ after
Popped before None after = Empty before after
