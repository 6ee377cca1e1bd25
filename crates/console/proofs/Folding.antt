-- A fold over bytes that goes on at digits alone, each of which counts the number so far ten times.
use Rattle.std.proofs.Common.{◌≡◌, ℕ, ◌+◌, ◌-◌, ◌*◌, ◌^◌, ◌<◌, ◌≤◌, List, [], ◌∷◌, ◌++◌, map, length, Some, None, Option, Bor, Iter, sym, ap, ◌∙◌, subst, arith}
use Rattle.std.proofs.lemmas.Fn.{chained_keeps, fronts, serves_by}
use Rattle.std.proofs.lemmas.List.{append-nil, length-append, map_push, nil_from_length}
use Rattle.std.specs.Fn.{Called, Mut, Takes}
use Rattle.std.specs.Iterator.{CallableAtEachTurn, Yields, YieldsThen}
use Rattle.std.specs.List.{FoldsTo}
use Rattle.std.specs.Option.{MatchOption}
use Rattle.console.specs.Grammar.{Numeral}
use Rattle.console.specs.Parts.{ReadsNumber}
use Rattle.console.proofs.Values.{Writes, digit_among, nothing_written, one_more_written, room_for_one_more}

-- The bytes behind references.
abbrev bytes : List (Bor ℕ) → List ℕ
bytes xs = map (λ x. x.now) xs

-- What an iterator over a slice has given, and what is left of it, are the slice.
given : (xs : List (Bor ℕ)) (s t : Iter ℕ) → Yields fronts s xs t → s.rest.now ≡ bytes xs ++ t.rest.now
given [] s t y = ap (λ (i : Iter ℕ). i.rest.now) y
given (x ∷ xs) s t y = y.1 ∙ ap (λ (l : List ℕ). x.now ∷ l) (given xs y.0 t y.2)

module _ {F : Type 0} (g : Mut F (ℕ × (Bor ℕ × Unit {0})) (Option ℕ)) where
  -- A turn that goes on.
  abbrev Turn : F × ℕ → Bor ℕ → F × ℕ → Type 0
  Turn p x q = (r : Option ℕ) × Called g p.0 (p.1, (x, tt)) r q.0 × (r ≡ Some q.1)

  -- A call adds a digit, and breaks off at any other byte.
  abbrev pub AddsDigit : Type 0
  AddsDigit = (f : F) (v : ℕ) (x : Bor ℕ) (r : Option ℕ) (h : F) → Called g f (v, (x, tt)) r h
      → MatchOption r (48 ≤ x.now → x.now ≤ 57 → ⊥) (λ n. (48 ≤ x.now) × (x.now ≤ 57) × (n ≡ v * 10 + (x.now - 48)))

  module _ (adds : AddsDigit) where
    keeps : (xs : List (Bor ℕ)) (q : F × ℕ) (x : Bor ℕ) (p : F × ℕ) → Writes (bytes xs) q.1 → Turn q x p → Writes (bytes (xs ++ x ∷ [])) p.1
    keeps xs q x p w turn =
        let a = rw turn.2 at (adds q.0 q.1 x turn.0 p.0 turn.1) in
        rw (map_push (λ (y : Bor ℕ). y.now) xs x, a.2) (one_more_written (bytes xs) q.1 x.now w a.0 a.1)

    -- Over at most 19 bytes the number so far is small enough at each call.
    pub callable : (s : Iter ℕ) (f : F) → ((h : F) (v : ℕ) (x : Bor ℕ) → v < 10 ^ 18 → Takes g h (v, (x, tt))) → length s.rest.now ≤ 19
        → CallableAtEachTurn {P = F × ℕ} fronts Turn (λ p x. Takes g p.0 (p.1, (x, tt))) s (f, 0)
    callable s f takes most = serves_by Turn (λ xs q. Writes (bytes xs) q.1) keeps fronts _ s (f, 0) nothing_written
        (λ xs t q x u y e w. takes q.0 q.1 x (room_for_one_more (bytes xs) q.1 w
        (omega (arith, most, ap length (given xs s t y), length-append (bytes xs) t.rest.now, ap length e))))

    -- What such a fold gives is the number that the bytes write.
    pub folded : {E : Type 0} (s u : Iter ℕ) (f : F) (r : Option ℕ) → 1 ≤ length s.rest.now → length s.rest.now ≤ 19
        → (xs : List (Bor ℕ)) × (o : Option (Bor ℕ)) × (h : F) × (v : ℕ) × YieldsThen fronts s xs o u × FoldsTo {P = F × ℕ} Turn (f, 0) xs (h, v)
        × MatchOption o (r ≡ Some v) (λ x. (c : Option ℕ) × (j : F) × E × Called g h (v, (x, tt)) c j × (c ≡ None) × (r ≡ None))
        → ReadsNumber s.rest.now r
    folded s u f r some most (xs, None, h, v, y, turns, end) =
        let w : Writes (bytes xs) v = chained_keeps Turn (λ xs q. Writes (bytes xs) q.1) keeps xs (f, 0) (h, v) nothing_written turns in
        let all : s.rest.now ≡ bytes xs =
        given xs s y.0 y.1 ∙ ap (λ (l : List ℕ). bytes xs ++ l) (nil_from_length y.0.rest.now y.2.0) ∙ append-nil (bytes xs) in
        let P : List ℕ → Type 0 = λ l. Numeral l v in
        let whole : P s.rest.now = subst P (sym all) (record {
          digits = w.digits;
          some = omega (arith, some, ap length all);
          most = omega (arith, most, ap length all);
          value = w.value;
        }) in
        rw end whole
    folded s u f r some most (xs, Some x, h, v, y, turns, end) =
        let a = rw end.4 at (adds h v x end.0 end.1 end.3) in
        let parts : s.rest.now ≡ bytes xs ++ (x.now ∷ u.rest.now) =
        given xs s y.0 y.1 ∙ ap (λ (l : List ℕ). bytes xs ++ l) y.2 in
        let none : (n : ℕ) → Numeral s.rest.now n → ⊥ = λ n w.
        let d = digit_among (bytes xs) u.rest.now x.now (rw parts at w.digits) in a d.0 d.1 in
        rw end.5 none
