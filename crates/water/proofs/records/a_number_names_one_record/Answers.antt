use Rattle.water.proofs.Numbers.{record_found, every_number, names, water_at_lem}
use Rattle.water.proofs.records.a_number_names_one_record.Goals as goal

pub returns : goal.returns
returns c = record { found = record_found; every = every_number; named = λ b t s h p. (names b t s h p, water_at_lem b t s h p) }
