use Rattle.site.proofs.table.Table.+survey.Given as goal

abbrev pub decreases-survey : goal.decreases-survey
decreases-survey l = l.root
