use Rattle.std.proofs.Common.{rules}
use Rattle.std.proofs.Output.{has_written_append, has_written_of_eq}
use Rattle.report.proofs.Steps.{lines_more}
use Rattle.site.specs.declared.node.Node.TheVariants.{Unused}
use Rattle.report.proofs.site_lines.NodeLinesDisplay.fmt.Goals as goal

pub loop-index-preserved : goal.loop-index-preserved
loop-index-preserved g c p =
    has_written_of_eq _ _ _ _ _ (lines_more c.args.self.now.0.now c.loop-index.index Unused c.loop-index-test.true) (has_written_append _ _ _ _ _ _ (c.loop-index.invariant p) (search rules))
