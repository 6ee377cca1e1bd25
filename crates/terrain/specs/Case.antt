-- What each refusal of a terrain file says: its number, its layer, its place and what was found.
use Rattle.std.specs.Prelude.{[], ◌∷◌}
use Rattle.questions.specs.Case.{Case, case}
use Rattle.questions.specs.declared.layer.Layer.TheVariants.{Trailer, Record, Tree}
use Rattle.terrain.specs.declared.refusal.Refusal.{Refusal}
use Rattle.terrain.specs.declared.refusal.Refusal.TheVariants.{TooShort, Signature, TrailerZeros, Count, Distance, NoteLength, Kind, RecordZeros, Volume, Waiting, Landings, OpenVolume, Subtrees, Outlets}

-- The one definition of every case.
abbrev pub case_of : Refusal → Case
case_of (TooShort length) = case 1 Trailer 0 (length ∷ [])
case_of (Signature found at) = case 2 Trailer at found
case_of (TrailerZeros found at) = case 3 Trailer at found
case_of (Count count at) = case 4 Trailer at (count ∷ [])
case_of (Distance distance at) = case 5 Trailer at (distance ∷ [])
case_of (NoteLength length) = case 6 Trailer 0 (length ∷ [])
case_of (Kind kind at) = case 7 Record at (kind ∷ [])
case_of (RecordZeros found at) = case 8 Record at found
case_of (Volume volume at) = case 9 Record at (volume ∷ [])
case_of (Waiting waiting at) = case 10 Tree at (waiting ∷ [])
case_of (Landings left right at) = case 11 Tree at (left ∷ right ∷ [])
case_of (OpenVolume volume at) = case 12 Tree at (volume ∷ [])
case_of (Subtrees waiting at) = case 13 Tree at (waiting ∷ [])
case_of (Outlets outlets at) = case 14 Tree at (outlets ∷ [])
