use Rattle.site.proofs.table.Table.+pour.Given as goal

abbrev pub decreases-pour : goal.decreases-pour
decreases-pour l = l.root
