use Rattle.byte_order.specs.Spelling.{listed}
use Rattle.std.proofs.Common.{rules}
use Rattle.byte_order.proofs.number.one_by_one.Goals as goal

pub returns : goal.returns
returns g c = listed c.args.field g.row.N (search rules)
