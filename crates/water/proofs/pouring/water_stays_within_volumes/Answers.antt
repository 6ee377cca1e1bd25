use Rattle.water.proofs.Keep.{sound_kept}
use Rattle.water.proofs.Depressions.{within_volume, full_volume}
use Rattle.water.proofs.pouring.water_stays_within_volumes.Goals as goal

pub returns : goal.returns
returns c = record { kept = sound_kept; below = within_volume; brim = full_volume }
