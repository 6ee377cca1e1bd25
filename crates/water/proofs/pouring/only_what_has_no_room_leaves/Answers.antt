use Rattle.water.proofs.Room.{closed_excess, open_excess, room_is}
use Rattle.water.proofs.pouring.only_what_has_no_room_leaves.Goals as goal

pub returns : goal.returns
returns c = record { closed = closed_excess; outlet = open_excess; room = room_is }
