-- Steps through a list of questions.
use Rattle.std.proofs.Common.{◌≡◌, Bool, true, false, cond, List, [], ◌∷◌, ◌++◌, Some, None, Ok, Err, IsErrAnd, Option, Result, sym, refl, ap, ◌∙◌, subst}
use Rattle.std.proofs.lemmas.Bool.{cond-true, cond-false}
use Rattle.questions.specs.Ask.{Question, AllYes, FirstNo, ask, first_no, refusal_in, verdict}

-- A yes leads on to the next question.
pub passed : {R : Type 0} (b : Bool) (r : R) (qs : List (Question R)) → b ≡ true → first_no (ask b r ∷ qs) ≡ first_no qs
passed b r qs e = cond-true b (first_no qs) (Some r) e

-- A no is the answer.
pub stopped : {R : Type 0} (b : Bool) (r : R) (qs : List (Question R)) → b ≡ false → first_no (ask b r ∷ qs) ≡ Some r
stopped b r qs e = cond-false b (first_no qs) (Some r) e

-- Questions that are all answered yes lead on to those after them.
pub all_passed : {R : Type 0} (xs ys : List (Question R)) → first_no xs ≡ None → first_no (xs ++ ys) ≡ first_no ys
all_passed [] ys e = refl
all_passed {R} (q ∷ qs) ys e = go q.yes (all_passed qs ys) e
  where
    go : (b : Bool) → (first_no qs ≡ None → first_no (qs ++ ys) ≡ first_no ys) →
        cond b (first_no qs) (Some q.refusal) ≡ None → cond b (first_no (qs ++ ys)) (Some q.refusal) ≡ first_no ys
    go true ih h = ih h
    go false ih h = cc

-- A no among them is the answer, whatever comes after.
pub some_stopped : {R : Type 0} (xs ys : List (Question R)) (r : R) → first_no xs ≡ Some r → first_no (xs ++ ys) ≡ Some r
some_stopped [] ys r e = cc
some_stopped {R} (q ∷ qs) ys r e = go q.yes (some_stopped qs ys r) e
  where
    go : (b : Bool) → (first_no qs ≡ Some r → first_no (qs ++ ys) ≡ Some r) →
        cond b (first_no qs) (Some q.refusal) ≡ Some r → cond b (first_no (qs ++ ys)) (Some q.refusal) ≡ Some r
    go true ih h = ih h
    go false ih h = h

-- Where no question is answered no, every question is answered yes.
pub all_yes : {R : Type 0} (qs : List (Question R)) → first_no qs ≡ None → AllYes qs
all_yes [] e = tt
all_yes {R} (q ∷ qs) e = go q.yes (all_yes qs) e
  where
    go : (b : Bool) → (first_no qs ≡ None → AllYes qs) → cond b (first_no qs) (Some q.refusal) ≡ None → (b ≡ true) × AllYes qs
    go true ih h = (refl, ih h)
    go false ih h = cc

-- The first question answered no, in words.
pub first_no_lem : {R : Type 0} (qs : List (Question R)) → FirstNo qs (first_no qs)
first_no_lem [] = tt
first_no_lem {R} (q ∷ qs) = go q.yes refl (first_no qs) (first_no_lem qs)
  where
    go : (b : Bool) → q.yes ≡ b → (o : Option R) → FirstNo qs o → FirstNo (q ∷ qs) (cond b o (Some q.refusal))
    go true e None f = (e, f)
    go true e (Some r) f = (q ∷ f.0, f.1, ap (λ (l : List (Question R)). q ∷ l) f.2, (e, f.3))
    go false e o f = ([], qs, ap (λ (b : Bool). ask b q.refusal ∷ qs) e, tt)

-- What a verdict tells of the questions.
pub verdict_ok : {R A : Type 0} (o : Option R) (a b : A) → Ok a ≡ verdict o b → (o ≡ None) × (a ≡ b)
verdict_ok None a b e = (refl, cc)
verdict_ok (Some r) a b e = cc

pub verdict_err : {R A : Type 0} (o : Option R) (x : R) (b : A) → Err x ≡ verdict o b → o ≡ Some x
verdict_err None x b e = cc
verdict_err (Some r) x b e = cc

refusal_in_lem : {R A : Type 0} (o : Option R) (a : A) → refusal_in (verdict o a) ≡ o
refusal_in_lem None a = refl
refusal_in_lem (Some r) a = refl

-- The answer is the first question answered no, in words.
pub answer_in_words : {R A : Type 0} (qs : List (Question R)) (r : Result A R) (a : A) → r ≡ verdict (first_no qs) a → FirstNo qs (refusal_in r)
answer_in_words qs r a h = subst (FirstNo qs) (sym (ap refusal_in h ∙ refusal_in_lem (first_no qs) a)) (first_no_lem qs)

-- What a `?` hands on is the refusal that it met.
pub refused_with : {A R : Type 0} {r : Result A R} {x : R} → IsErrAnd r (λ y. y ≡ x) → r ≡ Err x
refused_with {r = Ok a} h = absurd h
refused_with {r = Err y} h = ap Err h
