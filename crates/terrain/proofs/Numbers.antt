-- Numbers as text, one after another.
use Rattle.std.proofs.Common.{◌≡◌, ℕ, ◌+◌, ◌<◌, List, [], ◌∷◌, ◌++◌, length, get_or, take, decimal, sym, refl, ap, ◌∙◌, append_assoc, append-nil}
use Rattle.std.proofs.lemmas.List.{take_more}
use Rattle.terrain.specs.Words.{numbers}

-- Some numbers and then others.
numbers_both : (ns ms : List ℕ) → numbers (ns ++ ms) ≡ numbers ns ++ numbers ms
numbers_both [] ms = refl
numbers_both (n ∷ ns) ms =
    ap (λ t. 32 ∷ (decimal n ++ t)) (numbers_both ns ms) ∙ ap (λ t. 32 ∷ t) (sym (append_assoc (decimal n) (numbers ns) (numbers ms)))

-- The first numbers, and one more.
pub numbers_more : (ns : List ℕ) (i : ℕ) → i < length ns → numbers (take i ns) ++ (32 ∷ decimal (get_or ns i 0)) ≡ numbers (take (i + 1) ns)
numbers_more ns i h =
    ap (λ t. numbers (take i ns) ++ (32 ∷ t)) (sym (append-nil (decimal (get_or ns i 0))))
    ∙ sym (numbers_both (take i ns) (get_or ns i 0 ∷ []))
    ∙ ap numbers (sym (take_more ns i 0 h))
