-- What one step of a reader gives, and where it stands then.
use Rattle.std.specs.Prelude.{◌≡◌, ℕ, ◌+◌, ◌^◌, ◌<◌, Bool, cond, List, length, Some, None, Option, Result, nat_le}
use Rattle.questions.specs.Ask.{first_no, verdict}
use Rattle.terrain.specs.Format.{Format, part}
use Rattle.terrain.specs.Record.{record_of, record_questions}
use Rattle.terrain.specs.declared.reader.Reader.{Reader}
use Rattle.terrain.specs.declared.record.Record.{Record}
use Rattle.terrain.specs.declared.refusal.Refusal.{Refusal}

-- Are there `count` bytes from `at` on?
abbrev pub enough : List ℕ → ℕ → ℕ → Bool
enough file at count = nat_le (at + count) (length file)

-- A step over bytes that are there moves past them; any other stays.
abbrev pub place_after : List ℕ → ℕ → ℕ → ℕ
place_after file at count = cond (enough file at count) (at + count) at

-- The bytes of a step, if they are there.
abbrev pub bytes_at : List ℕ → ℕ → ℕ → Option (List ℕ)
bytes_at file at count = cond (enough file at count) (Some (part file at count)) None

-- What a record that starts at `at` says, or the first of its questions answered no.
abbrev pub record_at : Format → List ℕ → ℕ → Result Record Refusal
record_at e file at =
    verdict (first_no (record_questions e (part file at e.record_len) at)) (record_of e (part file at e.record_len))

-- The same, if all the bytes of the record are there.
abbrev pub next_record : Format → List ℕ → ℕ → Option (Result Record Refusal)
next_record e file at = cond (enough file at e.record_len) (Some (record_at e file at)) None

-- A step over `count` bytes, from one reader to the next: the bytes that it gives, and where it stands then.
pub record Stepped (before after : Reader) (count : ℕ) (given : Option (List ℕ)) : Type 0 where
  pub bytes : given ≡ bytes_at before.file.now before.place.at count
  pub place : after.place.at ≡ place_after before.file.now before.place.at count
  pub file : after.file ≡ before.file
  pub bound : after.place.at < 2 ^ 64
