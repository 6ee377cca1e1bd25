use Rattle.water.proofs.Order.{obeys}
use Rattle.water.proofs.Keep.{overflow_fills}
use Rattle.water.proofs.pouring.a_tree_that_overflows_takes_nothing_more.Goals as goal

pub returns : goal.returns
returns c = record {
  brim = λ a b u v t e. ((obeys t).brim a b u v e, (obeys t).brim_out a b u v e);
  filled = overflow_fills;
}
