use Rattle.water.proofs.Walk.{rests_once}
use Rattle.water.proofs.litre.a_litre_rests_in_one_record.Goals as goal

pub returns : goal.returns
returns c = rests_once
