-- Texts that are made of given bytes, where there is memory for them.
use Rattle.std.proofs.Common.{◌≡◌, ℕ, List, IfOk, Result, ◌∙◌}
use Rattle.std.proofs.lemmas.Result.{IfOk-weaker}

-- A text made of some bytes is made of equal ones.
pub made_as : {X E : Type 0} (bytes : X → List ℕ) (r : Result X E) {a b : List ℕ} → a ≡ b → IfOk r (λ s. bytes s ≡ a) → IfOk r (λ s. bytes s ≡ b)
made_as bytes r {a = a} {b = b} e m = IfOk-weaker r (λ s. bytes s ≡ a) (λ s. bytes s ≡ b) (λ s h. h ∙ e) m
