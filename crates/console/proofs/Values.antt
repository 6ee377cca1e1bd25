-- The number that digits write.
use Rattle.std.proofs.Common.{◌≡◌, ℕ, ◌+◌, ◌-◌, ◌*◌, ◌^◌, ◌<◌, ◌≤◌, List, [], ◌∷◌, ◌++◌, length, sym, ◌∙◌, arith, rules}
use Rattle.std.proofs.lemmas.Int.Digits.{digits_value_push}
use Rattle.std.proofs.lemmas.Str.{digit_value_digit}
use Rattle.std.proofs.lemmas.Str.Parse.{IsNumeralModel, digits_value_short, numerals_by_weight}
use Rattle.console.specs.Grammar.{Digits, Numeral, value_of}

-- The library's words for digits say the same.
pub numerals : IsNumeralModel Digits value_of
numerals = numerals_by_weight Digits (search rules) value_of (search rules)

-- Digits, and one more.
digits_push : (bs : List ℕ) (d : ℕ) → Digits bs → 48 ≤ d → d ≤ 57 → Digits (bs ++ d ∷ [])
digits_push [] d p low high = (low, high, tt)
digits_push (b ∷ bs) d p low high = (p.0, p.1, digits_push bs d p.2 low high)

-- A byte among digits is one.
pub digit_among : (xs ys : List ℕ) (d : ℕ) → Digits (xs ++ d ∷ ys) → (48 ≤ d) × (d ≤ 57)
digit_among [] ys d p = (p.0, p.1)
digit_among (b ∷ xs) ys d p = digit_among xs ys d p.2

-- Some bytes are digits, and write the number v.
pub record Writes (bs : List ℕ) (v : ℕ) : Type 0 where
  pub digits : Digits bs
  pub value : v ≡ value_of bs

-- No bytes write 0.
pub nothing_written : Writes [] 0
nothing_written = record { digits = tt; value = omega arith }

-- A digit more: what was written counts ten times as much.
pub one_more_written : (bs : List ℕ) (v d : ℕ) → Writes bs v → 48 ≤ d → d ≤ 57 → Writes (bs ++ d ∷ []) (v * 10 + (d - 48))
one_more_written bs v d w low high =
    let more : Digits (bs ++ d ∷ []) = digits_push bs d w.digits low high in
    let pushed = digits_value_push 10 bs d in
    let old = numerals.same bs (numerals.to bs w.digits) in
    let new = numerals.same (bs ++ d ∷ []) (numerals.to (bs ++ d ∷ []) more) in
    record { digits = more; value = omega (arith, w.value, pushed, old, new, digit_value_digit d (low, high)) }

-- What 18 digits or fewer write leaves room for one more.
pub room_for_one_more : (bs : List ℕ) (v : ℕ) → Writes bs v → length bs ≤ 18 → v < 10 ^ 18
room_for_one_more bs v w h = omega (arith, w.value, digits_value_short numerals bs 18 w.digits h)

-- Bytes write one number at most.
pub one_value : (bs : List ℕ) (m n : ℕ) → Numeral bs m → Numeral bs n → m ≡ n
one_value bs m n p q = p.value ∙ sym q.value
