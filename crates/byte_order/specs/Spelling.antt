-- A number and its bytes, each coming back from the other, in both orders.
use Rattle.std.specs.Prelude.{◌≡◌, ℕ, zero, suc, ◌+◌, ◌*◌, ◌/◌, ◌%◌, ◌^◌, ◌<◌, List, [], ◌∷◌, reverse, length, slice_index, refl}
use Rattle.std.proofs.lemmas.Nat.{div_below, mod_below}
use Rattle.std.proofs.lemmas.List.FromFn.{fill_by_all}
use Rattle.std.proofs.ByRecursion.{All-from_get_or, All-push}
use Rattle.std.proofs.lemmas.List.{length-reverse, reverse-reverse}
use Rattle.byte_order.specs.Bytes.{Bytes, big, big_bytes, each, little, little_bytes}
use mathlib.Core.List.{reverse-cons}
use Rattle.std.proofs.Common.{sym, ap, ◌∙◌, Fits, pow-suc, arith}
use Rattle.std.specs.Int.{w8}

-- A list of known length is its bytes, one by one.
pub listed : (bs : List ℕ) (n : ℕ) → length bs ≡ n → each n bs ≡ bs
listed bs n e = sym (fill_by_all (λ k. slice_index bs k) bs n 0 e (λ k h. refl))

-- What a slice or an array of bytes holds are bytes.
pub bytes_typed : (bs : List ℕ) → ((i : ℕ) → Fits w8 (slice_index bs i)) → Bytes bs
bytes_typed bs h = All-from_get_or (λ b. b < 256) bs 0 (λ i _. (h i).fits)

-- A number that so many bytes can spell comes back from them.
pub little_there : (width n : ℕ) → n < 256 ^ width → little (little_bytes width n) ≡ n
little_there zero n h = omega arith
little_there (suc w) n h =
    let rest : n / 256 < 256 ^ w = div_below n 256 (256 ^ w) (omega arith) (rw pow-suc at h) in
    ap (λ (m : ℕ). n % 256 + 256 * m) (little_there w (n / 256) rest) ∙ omega arith

-- Bytes come back from the number that they spell.
pub little_back : (bs : List ℕ) → Bytes bs → little_bytes (length bs) (little bs) ≡ bs
little_back [] h = refl
little_back (b ∷ bs) h =
    let low : (b + 256 * little bs) % 256 ≡ b = omega (arith, h.0) in
    let high : (b + 256 * little bs) / 256 ≡ little bs = omega (arith, h.0) in
    rw (low, high) (ap (λ (l : List ℕ). b ∷ l) (little_back bs h.1))

-- There are as many bytes as were asked for.
pub little_width : (width n : ℕ) → length (little_bytes width n) ≡ width
little_width zero n = refl
little_width (suc w) n = ap suc (little_width w (n / 256))

-- What a number is spelled by are bytes.
pub little_spelled : (width n : ℕ) → Bytes (little_bytes width n)
little_spelled zero n = tt
little_spelled (suc w) n = (mod_below n 256 (omega arith), little_spelled w (n / 256))

-- So many bytes spell no larger number.
pub little_below : (bs : List ℕ) → Bytes bs → little bs < 256 ^ length bs
little_below [] h = omega arith
little_below (b ∷ bs) h =
    let rest : little bs < 256 ^ length bs = little_below bs h.1 in
    rw pow-suc (omega (arith, h.0))

-- Bytes the other way round are bytes.
pub bytes_reverse : (bs : List ℕ) → Bytes bs → Bytes (reverse bs)
bytes_reverse [] h = tt
bytes_reverse (b ∷ bs) h =
    rw reverse-cons (All-push (λ b. b < 256) (reverse bs) b (bytes_reverse bs h.1) h.0)

-- The same five facts, the most significant byte first.
pub big_there : (width n : ℕ) → n < 256 ^ width → big (big_bytes width n) ≡ n
big_there width n h = ap little (reverse-reverse (little_bytes width n)) ∙ little_there width n h

pub big_back : (bs : List ℕ) → Bytes bs → big_bytes (length bs) (big bs) ≡ bs
big_back bs h =
    ap (λ (w : ℕ). big_bytes w (big bs)) (sym (length-reverse bs))
    ∙ ap reverse (little_back (reverse bs) (bytes_reverse bs h))
    ∙ reverse-reverse bs

pub big_width : (width n : ℕ) → length (big_bytes width n) ≡ width
big_width width n = length-reverse (little_bytes width n) ∙ little_width width n

pub big_spelled : (width n : ℕ) → Bytes (big_bytes width n)
big_spelled width n = bytes_reverse (little_bytes width n) (little_spelled width n)

pub big_below : (bs : List ℕ) → Bytes bs → big bs < 256 ^ length bs
big_below bs h = rw length-reverse at (little_below (reverse bs) (bytes_reverse bs h))
