use Rattle.water.proofs.Sums.{equal_rain, equal_rain_on_leaves}
use Rattle.water.proofs.rains.equal_rain_on_every_leaf_gives_equal_water.Goals as goal

pub returns : goal.returns
returns c = record { numbers = equal_rain; leaves = equal_rain_on_leaves }
