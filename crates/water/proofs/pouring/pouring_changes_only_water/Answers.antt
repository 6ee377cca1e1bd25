use Rattle.water.proofs.Shape.{shape_kept}
use Rattle.water.proofs.pouring.pouring_changes_only_water.Goals as goal

pub returns : goal.returns
returns c = shape_kept
