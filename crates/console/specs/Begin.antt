-- How the console begins: with the site of a file, or with the line that tells why not.
use Rattle.std.specs.Prelude.{ℕ, cond, List, [], length, Err, Option, nat_le}
use Rattle.std.specs.Option.{option_map}
use Rattle.questions.specs.Ask.{first_no}
use Rattle.terrain.specs.declared.refusal.Refusal.{Refusal}
use Rattle.site.specs.Questions.{questions}
use Rattle.console.specs.Reply.{reply_bytes}
use Rattle.console.specs.declared.refusal.Refusal.TheVariants.{File}

-- A file of more than 17,404 bytes counts as empty.
abbrev pub counted : List ℕ → List ℕ
counted file = cond (nat_le (length file) 17404) file []

-- The line that tells a refusal of the file, if it is refused.
abbrev pub begun : List ℕ → Option (List ℕ)
begun file = option_map (λ (r : Refusal). reply_bytes (Err (File r))) (first_no (questions file))
