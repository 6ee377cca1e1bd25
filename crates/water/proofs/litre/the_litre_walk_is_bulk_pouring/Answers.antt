use Rattle.water.proofs.Walk.{rain_is, rain_from}
use Rattle.water.proofs.litre.the_litre_walk_is_bulk_pouring.Goals as goal

pub returns : goal.returns
returns c = λ a v t u h e. (rain_is a v t u h e, rain_from a v t u h e)
