use Rattle.water.proofs.Keep.{full_passes}
use Rattle.water.proofs.pouring.a_full_tree_lets_all_pass.Goals as goal

pub returns : goal.returns
returns c = full_passes
