-- A record by its bytes: the kind, a zero, the landings of two bytes each, two zeros and the own volume.
use Rattle.std.specs.Prelude.{ℕ, ◌+◌, ◌^◌, Bool, cond, ◌&&◌, List, [], ◌∷◌, drop, Ok, Err, Result, ◌==◌, nat_le, nat_lt, slice_index}
use Rattle.questions.specs.Ask.{Question, ask}
use Rattle.terrain.specs.Format.{Format, part}
use Rattle.terrain.specs.Zeros.{all_zero}
use Rattle.terrain.specs.declared.record.Kind.{Kind as RecordKind}
use Rattle.terrain.specs.declared.record.Kind.TheVariants.{Basin, Merge, Outlet}
use Rattle.terrain.specs.declared.record.Record.{Record}
use Rattle.terrain.specs.declared.record.UnknownKind.{UnknownKind}
use Rattle.terrain.specs.declared.refusal.Refusal.{Refusal}
use Rattle.terrain.specs.declared.refusal.Refusal.TheVariants.{Kind, RecordZeros, Volume}

-- Kinds 1, 2 and 3 are basin, merge and outlet; other numbers are refused before this is asked.
abbrev pub kind_of : ℕ → RecordKind
kind_of k = cond (k == 1) Basin (cond (k == 2) Merge Outlet)

-- A byte stands for one of the three, or for none.
abbrev pub kind_in : ℕ → Result RecordKind UnknownKind
kind_in k = cond (nat_le 1 k && nat_le k 3) (Ok (kind_of k)) (Err (record { 0 = k }))

-- An own volume is below 2^40; the outlet has none.
abbrev pub volume_fits : RecordKind → ℕ → Bool
volume_fits Basin v = nat_lt v (2 ^ 40)
volume_fits Merge v = nat_lt v (2 ^ 40)
volume_fits Outlet v = v == 0

-- The bytes that have to be zero.
abbrev pub spare_bytes : List ℕ → List ℕ
spare_bytes rec = slice_index rec 1 ∷ slice_index rec 6 ∷ slice_index rec 7 ∷ []

-- What the bytes of a record say.
abbrev pub record_of : Format → List ℕ → Record
record_of e rec =
    record {
      kind = kind_of (slice_index rec 0);
      left = e.number (part rec 2 2);
      right = e.number (part rec 4 2);
      own = e.number (drop 8 rec);
    }

-- The questions that a record's own bytes answer, numbers 7 to 9; `at` is where the record starts.
abbrev pub record_questions : Format → List ℕ → ℕ → List (Question Refusal)
record_questions e rec at =
    ask (nat_le 1 (slice_index rec 0) && nat_le (slice_index rec 0) 3) (Kind (slice_index rec 0) at)
    ∷ ask (all_zero (spare_bytes rec)) (RecordZeros (spare_bytes rec) (at + 1))
    ∷ ask (volume_fits (record_of e rec).kind (record_of e rec).own) (Volume (record_of e rec).own (at + 8))
    ∷ []
