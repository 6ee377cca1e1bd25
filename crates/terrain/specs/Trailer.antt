-- The trailer of a file, its last 12 bytes: the distance in four bytes, the count in two, two zeros, and the signature.
use Rattle.std.specs.Prelude.{ℕ, ◌-◌, ◌*◌, Bool, cond, ◌&&◌, ◌||◌, List, [], ◌∷◌, length, drop, Ok, Err, Result, ◌==◌, nat_le, slice_index}
use Rattle.questions.specs.Ask.{Question, ask}
use Rattle.terrain.specs.Format.{Format, edition1, edition2, part}
use Rattle.terrain.specs.Zeros.{all_zero}
use Rattle.terrain.specs.declared.refusal.Refusal.{Refusal}
use Rattle.terrain.specs.declared.refusal.Refusal.TheVariants.{TooShort, Signature, TrailerZeros, Count, Distance, NoteLength}
use Rattle.terrain.specs.declared.trailer.EditionName.{EditionName}
use Rattle.terrain.specs.declared.trailer.EditionName.TheVariants.{First, Second}
use Rattle.terrain.specs.declared.trailer.Trailer.{Trailer}
use Rattle.terrain.specs.declared.trailer.UnknownEdition.{UnknownEdition}

-- The last 12 bytes.
abbrev pub tail_of : List ℕ → List ℕ
tail_of file = drop (length file - 12) file

-- F, T, the digit of an edition, and 0A.
abbrev pub signed : List ℕ → Bool
signed bytes =
    (slice_index bytes 0 == 70) && (slice_index bytes 1 == 84 && ((slice_index bytes 2 == edition1.digit || slice_index bytes 2 == edition2.digit) && slice_index bytes 3 == 10))

-- The edition that the digit of a signature names.
abbrev pub name_by : List ℕ → EditionName
name_by bytes = cond (slice_index bytes 2 == edition1.digit) First Second

-- The edition that a byte names as its digit, or none.
abbrev pub edition_in : ℕ → Result EditionName UnknownEdition
edition_in digit = cond (digit == edition1.digit) (Ok First) (cond (digit == edition2.digit) (Ok Second) (Err (record { 0 = digit })))

-- The number of an edition.
abbrev pub edition_number : EditionName → ℕ
edition_number First = 1
edition_number Second = 2

-- The edition that the trailer names.
abbrev pub name_of : List ℕ → EditionName
name_of tail = name_by (part tail 8 4)

-- What an edition says.
abbrev pub format_of : EditionName → Format
format_of First = edition1
format_of Second = edition2

-- How many records the trailer says there are.
abbrev pub count_of : Format → List ℕ → ℕ
count_of e tail = e.number (part tail 4 2)

-- How many bytes before the trailer it says that the records begin.
abbrev pub distance_of : Format → List ℕ → ℕ
distance_of e tail = e.number (part tail 0 4)

-- The note is what stands before the first record, in a file of n bytes.
abbrev pub note_length : Format → ℕ → List ℕ → ℕ
note_length e n tail = n - 12 - distance_of e tail

-- What the trailer says.
abbrev pub trailer_as : EditionName → Format → ℕ → List ℕ → Trailer
trailer_as name e n tail = record { edition = name; count = count_of e tail; note = note_length e n tail }

-- Questions 4 to 6, in the edition's byte order.
abbrev pub count_questions : Format → ℕ → List ℕ → List (Question Refusal)
count_questions e n tail =
    ask (nat_le 1 (count_of e tail) && nat_le (count_of e tail) 1023) (Count (count_of e tail) (n - 8))
    ∷ ask (distance_of e tail == count_of e tail * e.record_len && nat_le (distance_of e tail) (n - 12)) (Distance (distance_of e tail) (n - 12))
    ∷ ask (nat_le (note_length e n tail) 1024) (NoteLength (note_length e n tail))
    ∷ []

-- The questions that the trailer of n bytes answers, numbers 1 to 6.
abbrev pub trailer_questions : ℕ → List ℕ → List (Question Refusal)
trailer_questions n tail =
    ask (nat_le 12 n) (TooShort n)
    ∷ ask (signed (part tail 8 4)) (Signature (part tail 8 4) (n - 4))
    ∷ ask (all_zero (part tail 6 2)) (TrailerZeros (part tail 6 2) (n - 6))
    ∷ count_questions (format_of (name_of tail)) n tail

-- What the trailer says, in the edition that it names.
abbrev pub trailer_of : ℕ → List ℕ → Trailer
trailer_of n tail = trailer_as (name_of tail) (format_of (name_of tail)) n tail
