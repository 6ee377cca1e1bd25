-- What a refusal of a terrain file says in words.
use Rattle.std.specs.Prelude.{ℕ, List, [], ◌∷◌, ◌++◌, codes, decimal}
use Rattle.terrain.specs.Case.{case_of}
use Rattle.terrain.specs.declared.refusal.Refusal.{Refusal}
use Rattle.terrain.specs.declared.refusal.Refusal.TheVariants.{TooShort, Signature, TrailerZeros, Count, Distance, NoteLength, Kind, RecordZeros, Volume, Waiting, Landings, OpenVolume, Subtrees, Outlets}

-- The question that was answered no, in words.
abbrev pub words_of : Refusal → List ℕ
words_of (TooShort length) = codes "at least 12 bytes?"
words_of (Signature found at) = codes "last four bytes F, T, 1 or 2, 0A?"
words_of (TrailerZeros found at) = codes "trailer bytes 6 and 7 zero?"
words_of (Count count at) = codes "count 1 to 1023?"
words_of (Distance distance at) =
    codes "distance equal to count times record length, and at most the bytes before the trailer?"
words_of (NoteLength length) = codes "note at most 1024 bytes?"
words_of (Kind kind at) = codes "kind 1 to 3?"
words_of (RecordZeros found at) = codes "record bytes 1, 6 and 7 zero?"
words_of (Volume volume at) = codes "volume at most 1099511627775, and 0 for the outlet?"
words_of (Waiting waiting at) = codes "two subtrees waiting for the merge?"
words_of (Landings left right at) = codes "landings 0 for a leaf, a leaf of the left and of the right side for a merge?"
words_of (OpenVolume volume at) = codes "volume 0 for an open merge?"
words_of (Subtrees waiting at) = codes "one subtree after the last record?"
words_of (Outlets outlets at) = codes "one outlet?"

-- Each number after a single space.
abbrev pub numbers : List ℕ → List ℕ
numbers [] = []
numbers (n ∷ ns) = codes " " ++ (decimal n ++ numbers ns)

-- The question in words, and each number found.
abbrev pub question_text : Refusal → List ℕ
question_text r = words_of r ++ codes " found" ++ numbers (case_of r).found

-- A byte that stands for no kind of record, in words.
abbrev pub unknown_kind_text : ℕ → List ℕ
unknown_kind_text byte = decimal byte ++ codes " stands for no kind of record"

-- A byte that is the digit of no edition, in words.
abbrev pub unknown_edition_text : ℕ → List ℕ
unknown_edition_text byte = decimal byte ++ codes " is the digit of no edition"
