-- The records of a tree, each with all that is below it.
use Rattle.std.specs.Prelude.{◌≡◌, ℕ, ◌+◌, ◌<◌, ◌≤◌, Bool, true, ◌||◌, ◌⊎◌, ◌==◌}
use Rattle.water.specs.Tree.{Tree, basin, outlet, merge, size}
use Rattle.water.specs.Formed.{Numbered}
use Rattle.water.specs.Water.{water_at}

-- The number of a tree's top record.
abbrev pub number : Tree → ℕ
number (basin n o w) = n
number (outlet n w) = n
number (merge n o w c x y l r) = n

-- The tree s is a record of t with all that is below it.
abbrev pub Part : Tree → Tree → Type 0
Part (basin n o w) s = s ≡ basin n o w
Part (outlet n w) s = s ≡ outlet n w
Part (merge n o w c x y l r) s = (s ≡ merge n o w c x y l r) ⊎ (Part l s ⊎ Part r s)

-- In t the number n names s and nothing else.
pub record Names (t : Tree) (n : ℕ) (s : Tree) : Type 0 where
  pub part : Part t s
  pub called : number s ≡ n
  pub only : (z : Tree) → Part t z → number z ≡ n → z ≡ s

-- Is k the number of one of this tree's records?
abbrev pub has_record : ℕ → Tree → Bool
has_record k (basin n o w) = k == n
has_record k (outlet n w) = k == n
has_record k (merge n o w c x y l r) = k == n || (has_record k l || has_record k r)

-- The water of a tree's top record.
abbrev pub top_water : Tree → ℕ
top_water (basin n o w) = w
top_water (outlet n w) = w
top_water (merge n o w c x y l r) = w

-- Record n is a side of the merge p: the other side is z, and the landing there is j.
abbrev pub Side : Tree → (n j : ℕ) → Tree → Type 0
Side (basin i o w) n j z = ⊥
Side (outlet i w) n j z = ⊥
Side (merge i o w c x y l r) n j z =
    ((n ≡ number l) × (j ≡ y) × (z ≡ r)) ⊎ ((n ≡ number r) × (j ≡ x) × (z ≡ l))

-- A tree has a record of number k exactly when the test says so.
abbrev pub HasRecordLaw : Type 0
HasRecordLaw = (k : ℕ) (t : Tree) →
    (has_record k t ≡ true → (s : Tree) × Part t s × (number s ≡ k)) × ((s : Tree) → Part t s → number s ≡ k → has_record k t ≡ true)

-- In a tree numbered from b on each number in its range names one record.
abbrev pub NumberLaw : Type 0
NumberLaw = (b k : ℕ) (t : Tree) → Numbered b t → b ≤ k → k < b + size t → (s : Tree) × Names t k s

-- In a numbered tree every record is named by its number, and the water at that number is the record's.
abbrev pub RecordLaw : Type 0
RecordLaw = (b : ℕ) (t s : Tree) → Numbered b t → Part t s → Names t (number s) s × (water_at (number s) t ≡ top_water s)
