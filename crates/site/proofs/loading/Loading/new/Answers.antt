use Rattle.std.proofs.Common.{rules}
use Rattle.site.proofs.Ended.{nothing_built}
use Rattle.site.proofs.loading.Loading.new.Goals as goal

pub returns-clause-built : goal.returns-clause-built
returns-clause-built c = search (rules, nothing_built)
