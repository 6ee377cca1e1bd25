-- What calls answer, question by question.
use Rattle.std.proofs.Common.{◌≡◌, ℕ, ◌+◌, ◌^◌, ◌≤◌, true, [], ◌∷◌, None, Ok, Err, Option, Result, sym, ap, ◌∙◌}
use Rattle.std.proofs.lemmas.Bool.{leb-true}
use Rattle.questions.specs.Ask.{first_no, verdict}
use Rattle.questions.proofs.Asked.{all_passed, all_yes, some_stopped, verdict_err, verdict_ok}
use Rattle.water.specs.Tree.{has_leaf}
use Rattle.water.specs.Level.{level}
use Rattle.water.specs.State.{State, litres}
use Rattle.water.specs.Calls.{level_questions, limit_question, rain_questions}
use Rattle.water.specs.declared.refusal.Refusal.{Refusal}
use Rattle.water.specs.declared.units.Leaf.{Leaf}
use Rattle.water.specs.declared.units.Litres.{Litres}

abbrev accepts : Result (Unit {0}) Refusal
accepts = Ok tt

abbrev level_answer : Litres → Result Litres Refusal
level_answer v = Ok v

-- What a leaf's place answers.
module _ (a : Leaf) (s : State) (at : ℕ) (e : Ok at ≡ verdict (first_no (level_questions a s)) a.0) where
  leaf_yes : first_no (level_questions a s) ≡ None
  leaf_yes = (verdict_ok (first_no (level_questions a s)) at a.0 e).0

  pub leaf_there : has_leaf a.0 s.tree ≡ true
  leaf_there = (all_yes (level_questions a s) leaf_yes).0

  pub leaf_at : at ≡ a.0
  leaf_at = (verdict_ok (first_no (level_questions a s)) at a.0 e).1

-- What the level answers.
module _ (a : Leaf) (s : State) where
  pub level_no_leaf : (x : Refusal) (r : Result Litres Refusal) → Err x ≡ verdict (first_no (level_questions a s)) a.0 → r ≡ Err x →
      r ≡ verdict (first_no (level_questions a s)) (litres (level a.0 s.tree))
  level_no_leaf x r e f = cc (verdict_err (first_no (level_questions a s)) x a.0 e)

  pub level_told : (at : ℕ) (v : Litres) → Ok at ≡ verdict (first_no (level_questions a s)) a.0 → v.0 ≡ level at s.tree →
      level_answer v ≡ verdict (first_no (level_questions a s)) (litres (level a.0 s.tree))
  level_told at v e f =
      ap (λ (k : ℕ). level_answer (litres k)) (f ∙ ap (λ (k : ℕ). level k s.tree) (leaf_at a s at e))
      ∙ ap (λ (o : Option Refusal). verdict o (litres (level a.0 s.tree))) (sym (leaf_yes a s at e))

-- What rain answers, where n is the rain accepted so far.
module _ (a : Leaf) (v : Litres) (s : State) where
  -- What is no leaf is refused first.
  pub rain_no_leaf : (x : Refusal) (r : Result (Unit {0}) Refusal) → Err x ≡ verdict (first_no (level_questions a s)) a.0 → r ≡ Err x →
      r ≡ verdict (first_no (rain_questions a v s)) tt
  rain_no_leaf x r e f =
      cc (some_stopped (level_questions a s) (limit_question v s.accepted ∷ []) x (verdict_err (first_no (level_questions a s)) x a.0 e))

  module _ (at n : ℕ) (e : Ok at ≡ verdict (first_no (level_questions a s)) a.0) (same : n ≡ s.accepted) where
    limit_asked : first_no (rain_questions a v s) ≡ first_no (limit_question v n ∷ [])
    limit_asked =
        all_passed (level_questions a s) (limit_question v s.accepted ∷ []) (leaf_yes a s at e)
        ∙ ap (λ (k : ℕ). first_no (limit_question v k ∷ [])) (sym same)

    pub rain_past_limit : (x : Refusal) (r : Result (Unit {0}) Refusal) → Err x ≡ verdict (first_no (limit_question v n ∷ [])) (n + v.0) → r ≡ Err x →
        r ≡ verdict (first_no (rain_questions a v s)) tt
    rain_past_limit x r f g = cc (limit_asked, verdict_err (first_no (limit_question v n ∷ [])) x (n + v.0) f)

-- Rain that is within the limit is counted.
pub rain_counted : (v : Litres) (n k : ℕ) → Ok k ≡ verdict (first_no (limit_question v n ∷ [])) (n + v.0) → (k ≡ n + v.0) × (n + v.0 ≤ 2 ^ 60)
rain_counted v n k f =
    let p = verdict_ok (first_no (limit_question v n ∷ [])) k (n + v.0) f in
    (p.1, leb-true _ _ (all_yes (limit_question v n ∷ []) p.0).0)
