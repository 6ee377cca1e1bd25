use Rattle.water.proofs.Keep.{balance}
use Rattle.water.proofs.Room.{site_balance}
use Rattle.water.proofs.pouring.no_litre_is_lost_or_made.Goals as goal

pub returns : goal.returns
returns c = record { balance = balance; site = site_balance }
