use Rattle.texts.proofs.Writes.{buffers_more_read, adds_in_read}
use Rattle.diagram_export.specs.LogText.{other_entry}
use Rattle.diagram_export.proofs.log_text.add_other_entries.Goals as goal

pub loop-line-preserved : goal.loop-line-preserved
loop-line-preserved g c = buffers_more_read (other_entry c.args.export.now c.args.stamped.now) c.args.lines.now c.loop-line.line-index _ c.loop-line-test.true c.line-item.is c.loop-line.invariant c.in_ok-add_other_entry.ensures

pub returns-in_err-add_other_entry : goal.returns-in_err-add_other_entry
returns-in_err-add_other_entry g c = adds_in_read (other_entry c.args.export.now c.args.stamped.now) c.from_residual.result c.args.lines.now c.loop-line.line-index _ c.from_residual.ensures.0 c.loop-line-test.true c.line-item.is c.loop-line.invariant c.in_err-add_other_entry.ensures
