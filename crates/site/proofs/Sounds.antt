-- A table that holds a formed dry tree is a site's table.
use Rattle.std.proofs.Common.{◌≡◌, refl}
use Rattle.water.specs.Formed.{Formed}
use Rattle.water.specs.State.{untouched}
use Rattle.water.specs.Tree.{Tree, dried}
use Rattle.water.proofs.Dry.{dry_stands}
use Rattle.site.specs.Held.{Holds, tabled}
use Rattle.site.specs.declared.table.Table.{Table}

pub dry_holds : (table : Table) (t : Tree) → table ≡ tabled t → Formed t → dried t ≡ t → Holds table 0 0 (untouched t)
dry_holds table t e f d = record { tree = e; accepted = refl; pumped = refl; stands = dry_stands t f d }
