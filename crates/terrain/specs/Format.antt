-- The editions of the format, by what they say.
use Rattle.std.specs.Prelude.{ℕ, ◌-◌, cond, List, take, drop, length, Some, None, Option, nat_le}
use Rattle.byte_order.specs.Bytes.{little, big}

-- An edition: its digit, the bytes of a record, and the number that bytes spell.
pub record Format : Type 0 where
  pub digit : ℕ
  pub record_len : ℕ
  pub number : List ℕ → ℕ

-- An edition from its parts.
abbrev pub format : ℕ → ℕ → (List ℕ → ℕ) → Format
format digit record_len number = record { digit = digit; record_len = record_len; number = number }

-- The old client's edition.
abbrev pub edition1 : Format
edition1 = format 49 12 little

-- The new client's edition.
abbrev pub edition2 : Format
edition2 = format 50 16 big

-- The `count` bytes from `at` on.
abbrev pub part : List ℕ → ℕ → ℕ → List ℕ
part file at count = take count (drop at file)

-- The last so many bytes, if there are so many.
abbrev pub last_of : ℕ → List ℕ → Option (List ℕ)
last_of count file = cond (nat_le count (length file)) (Some (drop (length file - count) file)) None

-- What the implementation of an edition says.
abbrev pub said_by : record { number : List ℕ → ℕ; spelling : ℕ → ℕ → List ℕ; DIGIT : ℕ; RECORD_LEN : ℕ } → Format
said_by e = format e.DIGIT e.RECORD_LEN e.number
