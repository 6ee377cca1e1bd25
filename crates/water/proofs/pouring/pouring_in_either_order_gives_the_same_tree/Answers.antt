use Rattle.water.proofs.Order.{obeys}
use Rattle.water.proofs.pouring.pouring_in_either_order_gives_the_same_tree.Goals as goal

pub returns : goal.returns
returns c = λ a b u v t. ((obeys t).swap a b u v, (obeys t).swap_out a b u v)
