use Rattle.terrain.specs.declared.trailer.EditionName.TheVariants.{First, Second}
use Rattle.site.proofs.Loads.{handed}
use Rattle.site.proofs.site.load.read_table.Goals as goal

pub returns-in-First : goal.returns-in-First
returns-in-First c =
    handed First _ c.args.trailer.now c.args.reader.now c.requires.reads c.requires.accepted c.in-First.is _ c.build.ensures

pub returns-in-Second : goal.returns-in-Second
returns-in-Second c =
    handed Second _ c.args.trailer.now c.args.reader.now c.requires.reads c.requires.accepted c.in-Second.is _ c.build-in-Second.ensures
