use Rattle.water.proofs.Order.{obeys}
use Rattle.water.proofs.pouring.litres_add_up_at_a_leaf.Goals as goal

pub returns : goal.returns
returns c = record {
  nothing = λ a t. ((obeys t).none a, (obeys t).none_out a);
  adding = λ a u v t. ((obeys t).more a u v, (obeys t).more_out a u v);
}
