-- The cells so far are written.
use Rattle.std.specs.Fmt.{HasWritten, IsPlainFormatter}
use Rattle.raster_text.specs.Map.{cell_text, joined}
use Rattle.raster_text.proofs.map.RowDisplay.fmt.Given as goal

abbrev pub invariant-loop-col : goal.invariant-loop-col
invariant-loop-col g l =
    IsPlainFormatter l.initial.f
    → HasWritten g.W.Write.write_str_gives l.initial.f
    (joined (cell_text (g.R.Raster.meaning l.self.raster.now) l.self.row) l.col) l.f
