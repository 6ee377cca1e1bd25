use Rattle.water.proofs.Levels.{level_is_lem, outlet_level}
use Rattle.water.proofs.level.the_level_is_that_of_the_topmost_pool.Goals as goal

pub returns : goal.returns
returns c = record { pool = level_is_lem; outlet = outlet_level }
