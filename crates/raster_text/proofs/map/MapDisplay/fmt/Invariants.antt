-- The rows so far are written.
use Rattle.std.specs.Fmt.{HasWritten, IsPlainFormatter}
use Rattle.raster_text.specs.Map.{row_text, joined}
use Rattle.raster_text.proofs.map.MapDisplay.fmt.Given as goal

abbrev pub invariant-loop-row : goal.invariant-loop-row
invariant-loop-row g l =
    IsPlainFormatter l.initial.f
    → HasWritten g.W.Write.write_str_gives l.initial.f
    (joined (row_text (g.R.Raster.meaning l.self.0)) l.row) l.f
