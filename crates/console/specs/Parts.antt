-- What the steps of reading a line answer.
use Rattle.std.specs.Prelude.{◌≡◌, ℕ, List, Some, None, Ok, Err, Option, Result}
use Rattle.console.specs.Grammar.{Numeral, Reads, TwoNumerals}
use Rattle.console.specs.declared.command.Command.{Command}
use Rattle.console.specs.declared.refusal.Refusal.{Refusal}
use Rattle.console.specs.declared.refusal.Refusal.TheVariants.{NotWellFormed}

-- The number that the bytes write, if they write one.
abbrev pub ReadsNumber : List ℕ → Option ℕ → Type 0
ReadsNumber bs None = (n : ℕ) → Numeral bs n → ⊥
ReadsNumber bs (Some n) = Numeral bs n

-- The only two numbers that the bytes write, if they write two.
abbrev pub ReadsTwo : List ℕ → Option (ℕ × ℕ) → Type 0
ReadsTwo bs None = (m n : ℕ) → TwoNumerals bs m n → ⊥
ReadsTwo bs (Some p) =
    TwoNumerals bs p.0 p.1 × ((m n : ℕ) → TwoNumerals bs m n → (m ≡ p.0) × (n ≡ p.1))

-- A line is read as its command, or refused as not well formed.
abbrev pub IsReading : List ℕ → Result Command Refusal → Type 0
IsReading line (Ok c) = Reads line (Some c)
IsReading line (Err r) = Reads line None × (r ≡ NotWellFormed)
