use Rattle.texts.proofs.Writes.{buffers_more_read, adds_in_read}
use Rattle.diagram_labels.specs.Renamed.Reporting.{renamed_line}
use Rattle.diagram_labels.proofs.renamed.reporting.add_all_renamed.Goals as goal

pub loop-name-preserved : goal.loop-name-preserved
loop-name-preserved g c = buffers_more_read renamed_line c.args.renamed.now c.loop-name.name-index _ c.loop-name-test.true c.name-item.is c.loop-name.invariant c.in_ok-add_renamed.ensures

pub returns-in_err-add_renamed : goal.returns-in_err-add_renamed
returns-in_err-add_renamed g c = adds_in_read renamed_line c.from_residual.result c.args.renamed.now c.loop-name.name-index _ c.from_residual.ensures.0 c.loop-name-test.true c.name-item.is c.loop-name.invariant c.in_err-add_renamed.ensures
