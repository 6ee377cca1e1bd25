-- Questions in order, and the first that is answered no.
use Rattle.std.specs.Prelude.{◌≡◌, Bool, true, false, cond, List, [], ◌∷◌, ◌++◌, Some, None, Ok, Err, Option, Result}

-- A question with its answer, and the refusal that a no stands for.
pub record Question (R : Type 0) : Type 0 where
  pub yes : Bool
  pub refusal : R

-- A question from its parts.
abbrev pub ask : {R : Type 0} → Bool → R → Question R
ask b r = record { yes = b; refusal = r }

-- The refusal of the first question answered no.
abbrev pub first_no : {R : Type 0} → List (Question R) → Option R
first_no [] = None
first_no (q ∷ qs) = cond q.yes (first_no qs) (Some q.refusal)

-- What a call answers: the refusal if there is one, else the value.
abbrev pub verdict : {R A : Type 0} → Option R → A → Result A R
verdict None a = Ok a
verdict (Some r) a = Err r

-- The refusal in a call's answer, if there is one.
abbrev pub refusal_in : {R A : Type 0} → Result A R → Option R
refusal_in (Ok a) = None
refusal_in (Err r) = Some r

-- Every question is answered yes.
abbrev pub AllYes : {R : Type 0} → List (Question R) → Type 0
AllYes [] = Unit {0}
AllYes (q ∷ qs) = (q.yes ≡ true) × AllYes qs

-- In words: a refusal is that of a question answered no, with every question before it answered yes;
-- where there is none, every question is answered yes.
abbrev pub FirstNo : {R : Type 0} → List (Question R) → Option R → Type 0
FirstNo qs None = AllYes qs
FirstNo {R} qs (Some r) =
    (before : List (Question R)) × (after : List (Question R)) × (qs ≡ before ++ (ask false r ∷ after)) × AllYes before
