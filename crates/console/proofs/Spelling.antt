-- Which command a line spells, by its first bytes.
use Rattle.std.proofs.Common.{◌≡◌, ℕ, List, ◌∷◌, Some, None, Option, refl, subst, arith}
use Rattle.console.specs.Grammar.{Reads, Spells, TwoNumerals}
use Rattle.console.specs.Parts.{ReadsTwo}
use Rattle.console.specs.declared.command.Command.{Command}
use Rattle.console.specs.declared.command.Command.TheVariants.{Rain, Level, Totals}

-- Rain over numbers.
abbrev pub rain : ℕ → ℕ → Command
rain m n = Rain (record { 0 = m }) (record { 0 = n })

-- A line that begins `R ` spells nothing but rain.
only_rain : (line rest : List ℕ) → line ≡ 82 ∷ 32 ∷ rest → (d : Command) → Spells line d → (m : ℕ) × (n : ℕ) × TwoNumerals rest m n × (d ≡ rain m n)
only_rain line rest e (Rain leaf litres) s =
    let P : List ℕ → Type 0 = λ l. TwoNumerals l leaf.0 litres.0 in
    let same : s.0 ≡ rest = cc (s.2, e) in
    (leaf.0, litres.0, subst P same s.1, refl)
only_rain line rest e (Level leaf) s =
    let letter : ◌≡◌ {A = ℕ} 76 82 = cc (s.2, e) in absurd (omega arith)
only_rain line rest e Totals s = cc (s, e)

-- `R ` is followed by two numbers, or the line spells nothing.
pub rain_read : (line rest : List ℕ) (m n : ℕ) → line ≡ 82 ∷ 32 ∷ rest → ReadsTwo rest (Some (m, n)) → Reads line (Some (rain m n))
rain_read line rest m n e r = ((rest, r.0, e), only)
  where
    only : (d : Command) → Spells line d → d ≡ rain m n
    only d s =
        let u = only_rain line rest e d s in
        let v = r.1 u.0 u.1 u.2 in
        cc (u.3, v.0, v.1)

pub rain_not_read : (line rest : List ℕ) → line ≡ 82 ∷ 32 ∷ rest → ReadsTwo rest None → Reads line None
rain_not_read line rest e r d s = let u = only_rain line rest e d s in r u.0 u.1 u.2

-- A command that is read is a reading.
pub is_read : (line : List ℕ) (c : Command) → Reads line (Some c) → (o : Option Command) × Reads line o
is_read line c r = (Some c, r)
