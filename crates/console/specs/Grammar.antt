-- The lines of the console: which command each one spells.
use Rattle.std.specs.Prelude.{◌≡◌, ℕ, ◌+◌, ◌-◌, ◌*◌, ◌^◌, ◌≤◌, List, [], ◌∷◌, ◌++◌, length, Some, None, codes, Option}
use Rattle.console.specs.declared.command.Command.{Command}
use Rattle.console.specs.declared.command.Command.TheVariants.{Rain, Level, Totals}

-- Every byte is a decimal digit, 0 (48) to 9 (57).
abbrev pub Digits : List ℕ → Type 0
Digits [] = Unit {0}
Digits (b ∷ bs) = (48 ≤ b) × (b ≤ 57) × Digits bs

-- The number that digits write: each counts ten times as much as the next.
abbrev pub value_of : List ℕ → ℕ
value_of [] = 0
value_of (b ∷ bs) = (b - 48) * 10 ^ length bs + value_of bs

-- A number is written by 1 to 19 digits; zeros in front are fine.
pub record Numeral (bs : List ℕ) (n : ℕ) : Type 0 where
  pub digits : Digits bs
  pub some : 1 ≤ length bs
  pub most : length bs ≤ 19
  pub value : n ≡ value_of bs

-- Two numbers are written with one space between them.
pub record TwoNumerals (bs : List ℕ) (m n : ℕ) : Type 0 where
  pub left : List ℕ
  pub right : List ℕ
  pub first : Numeral left m
  pub second : Numeral right n
  pub parts : bs ≡ left ++ (codes " " ++ right)

-- Rain is spelt `R leaf litres`, the level over a leaf `L leaf`, the totals `O`.
abbrev pub Spells : List ℕ → Command → Type 0
Spells line (Rain leaf litres) =
    (rest : List ℕ) × TwoNumerals rest leaf.0 litres.0 × (line ≡ codes "R " ++ rest)
Spells line (Level leaf) = (rest : List ℕ) × Numeral rest leaf.0 × (line ≡ codes "L " ++ rest)
Spells line Totals = line ≡ codes "O"

-- A line is read as the one command that it spells, and as none where it spells none.
abbrev pub Reads : List ℕ → Option Command → Type 0
Reads line (Some c) = Spells line c × ((d : Command) → Spells line d → d ≡ c)
Reads line None = (d : Command) → Spells line d → ⊥
