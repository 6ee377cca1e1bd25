use Rattle.water.proofs.Depressions.{stays, spills}
use Rattle.water.proofs.depression.rain_stays_in_a_depression_with_room.Goals as goal

pub returns : goal.returns
returns c = λ a v t s h p o e. (stays a v t s h p o e, spills a v t s h p o e)
