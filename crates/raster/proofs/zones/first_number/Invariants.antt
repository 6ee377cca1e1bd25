-- None of the zones so far covers the cell.
use Rattle.raster.specs.Zones.{NoneCovers}
use Rattle.raster.proofs.zones.first_number.Given as goal

abbrev pub invariant-loop-zone : goal.invariant-loop-zone
invariant-loop-zone l = NoneCovers l.zone-index l.zones l.row l.col
