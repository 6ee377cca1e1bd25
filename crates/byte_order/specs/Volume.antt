-- The volume in a record: the number that the bytes after the first eight spell.
use Rattle.std.specs.Prelude.{ℕ, ◌-◌, cond, List, length, Some, None, Option, ◌==◌}

-- How many bytes of a record are its volume.
abbrev pub volume_width : ℕ → ℕ
volume_width record_len = record_len - 8

-- The volume that a field holds, in a byte order, if the field is as wide as a volume.
abbrev pub volume_in : (List ℕ → ℕ) → ℕ → List ℕ → Option ℕ
volume_in number record_len field = cond (length field == volume_width record_len) (Some (number field)) None
