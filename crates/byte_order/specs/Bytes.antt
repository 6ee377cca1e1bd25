-- Numbers and the bytes that spell them, in both orders.
use Rattle.std.specs.Prelude.{ℕ, zero, suc, ◌+◌, ◌*◌, ◌/◌, ◌%◌, ◌<◌, List, [], ◌∷◌, map, reverse, slice_index}
use Rattle.std.specs.List.{range_with_len, AllByRecursion}

-- Each element is a byte.
abbrev pub Bytes : List ℕ → Type 0
Bytes bs = AllByRecursion (λ b. b < 256) bs

-- The number that bytes spell, the least significant first.
abbrev pub little : List ℕ → ℕ
little [] = 0
little (b ∷ bs) = b + 256 * little bs

-- The number that bytes spell, the most significant first.
abbrev pub big : List ℕ → ℕ
big bs = little (reverse bs)

-- So many bytes of a number, the least significant first.
abbrev pub little_bytes : ℕ → ℕ → List ℕ
little_bytes zero n = []
little_bytes (suc width) n = n % 256 ∷ little_bytes width (n / 256)

-- So many bytes of a number, the most significant first.
abbrev pub big_bytes : ℕ → ℕ → List ℕ
big_bytes width n = reverse (little_bytes width n)

-- The first so many bytes of a list, one by one.
abbrev pub each : ℕ → List ℕ → List ℕ
each n bs = map (λ k. slice_index bs k) (range_with_len 0 n)
