use Rattle.water.proofs.Worked.{worked_shown}
use Rattle.water.proofs.examples.the_worked_examples_hold.Goals as goal

pub returns : goal.returns
returns c = worked_shown
