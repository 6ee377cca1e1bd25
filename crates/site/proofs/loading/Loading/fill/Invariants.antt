use Rattle.std.proofs.Common.{◌≡◌}
use Rattle.terrain.specs.Format.{format}
use Rattle.site.specs.Fill.{Reached}
use Rattle.site.proofs.loading.Loading.fill.Given as goal

abbrev pub invariant-loop-i : goal.invariant-loop-i
invariant-loop-i g l =
    Reached (format g.E.Edition.DIGIT g.E.Edition.RECORD_LEN g.E.ByteOrder.number) l.reader l.self
    × (l.self.table.count ≡ l._i)
    × (l.reader.file ≡ l.initial.reader.file)
