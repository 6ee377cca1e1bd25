-- The space between two numbers.
use Rattle.std.proofs.Common.{◌≡◌, ℕ, zero, suc, ◌+◌, ◌<◌, List, [], ◌∷◌, ◌++◌, length, get_or, take, drop, None, Some, Option, sym, refl, ap, ◌∙◌, subst, suc-le-suc, arith}
use Rattle.std.proofs.lemmas.List.{take-append-drop, drop_more, drop-drop, drop_at, take_at, get_or_at, length-append}
use Rattle.std.specs.List.{AllWithin, HoldsAt}
use Rattle.std.specs.Option.{MatchOption}
use Rattle.console.specs.Grammar.{Digits, Numeral, TwoNumerals}
use Rattle.console.specs.Parts.{ReadsNumber, ReadsTwo}
use Rattle.console.proofs.Values.{one_value}

-- A byte that is a space (32), and one that is none.
abbrev pub Space : ℕ → Type 0
Space b = b ≡ 32

abbrev pub Other : ℕ → Type 0
Other b = b ≡ 32 → ⊥

-- The place of the first space, if there is one.
abbrev pub FirstSpace : List ℕ → Option ℕ → Type 0
FirstSpace bs o = MatchOption o (AllWithin Other bs 0 (length bs)) (λ i. (i < length bs) × HoldsAt Space bs i × AllWithin Other bs 0 i)

-- The first space after digits is the one that follows them.
space_follows : (xs ys : List ℕ) (i : ℕ) → Digits xs → get_or (xs ++ 32 ∷ ys) i 0 ≡ 32 → ((k : ℕ) → k < i → Other (get_or (xs ++ 32 ∷ ys) k 0)) → length xs ≡ i
space_follows [] ys zero d e f = refl
space_follows [] ys (suc i) d e f = absurd (f 0 (omega arith) refl)
space_follows (b ∷ xs) ys zero d e f = absurd (omega (arith, d.0, e))
space_follows (b ∷ xs) ys (suc i) d e f =
    ap suc (space_follows xs ys i d.2 e (λ k h q. f (suc k) (suc-le-suc h) q))

-- Without a space there are no two numbers.
pub no_space_read : (bs : List ℕ) → FirstSpace bs None → ReadsTwo bs None
no_space_read bs f m n t =
    let xs : List ℕ = t.left in
    let at : get_or bs (length xs) 0 ≡ 32 = ap (λ (l : List ℕ). get_or l (length xs) 0) t.parts ∙ get_or_at xs 32 t.right 0 (length xs) refl in
    f (length xs) 0 (omega arith) (omega (arith, ap length t.parts, length-append xs (32 ∷ t.right))) at

module _ (bs : List ℕ) (i : ℕ) (f : FirstSpace bs (Some i)) where
  -- Two numbers are those before and after the first space.
  around_space : (m n : ℕ) → TwoNumerals bs m n → Numeral (take i bs) m × Numeral (drop (i + 1) bs) n
  around_space m n t =
      let xs : List ℕ = t.left in
      let ys : List ℕ = t.right in
      let P : List ℕ → Type 0 = λ l. (get_or l i 0 ≡ 32) × ((k : ℕ) → k < i → Other (get_or l k 0)) in
      let at : P (xs ++ 32 ∷ ys) = subst P t.parts (f.1 0, λ k h. f.2 k 0 (omega arith) h) in
      let k : length xs ≡ i = space_follows xs ys i t.first.digits at.0 at.1 in
      let front : take i bs ≡ xs = ap (take i) t.parts ∙ take_at xs (32 ∷ ys) i k in
      let back : drop (i + 1) bs ≡ ys = sym (drop-drop 1 i bs) ∙ ap (λ (l : List ℕ). drop 1 (drop i l)) t.parts ∙ ap (drop 1) (drop_at xs (32 ∷ ys) i k) in
      rw (front, back) (t.first, t.second)

  -- Without a number on either side of it there are no two.
  pub first_not_read : ReadsNumber (take i bs) None → ReadsTwo bs None
  first_not_read r m n t = r m (around_space m n t).0

  pub second_not_read : ReadsNumber (drop (i + 1) bs) None → ReadsTwo bs None
  second_not_read r m n t = r n (around_space m n t).1

  -- With one on each side they are the two.
  pub both_read : (m n : ℕ) → Numeral (take i bs) m → Numeral (drop (i + 1) bs) n → ReadsTwo bs (Some (m, n))
  both_read m n first second = (
    record {
      left = take i bs;
      right = drop (i + 1) bs;
      first = first;
      second = second;
      parts =
          sym (take-append-drop i bs)
          ∙ ap (λ (l : List ℕ). take i bs ++ l) (drop_more bs i 0 f.0)
          ∙ ap (λ (b : ℕ). take i bs ++ b ∷ drop (i + 1) bs) (f.1 0);
    },
    λ p q t.
        let u = around_space p q t in
        (one_value (take i bs) p m u.0 first, one_value (drop (i + 1) bs) q n u.1 second),
  )
