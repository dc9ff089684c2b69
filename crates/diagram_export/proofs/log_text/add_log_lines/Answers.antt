use Rattle.texts.proofs.Writes.{buffers_more_read, adds_in_read}
use Rattle.diagram_export.specs.LogText.{log_line}
use Rattle.diagram_export.proofs.log_text.add_log_lines.Goals as goal

pub loop-stamped-preserved : goal.loop-stamped-preserved
loop-stamped-preserved g c = buffers_more_read (log_line c.args.export.now) c.args.log.now c.loop-stamped.stamped-index _ c.loop-stamped-test.true c.stamped-item.is c.loop-stamped.invariant c.in_ok-add_log_line.ensures

pub returns-in_err-add_log_line : goal.returns-in_err-add_log_line
returns-in_err-add_log_line g c = adds_in_read (log_line c.args.export.now) c.from_residual.result c.args.log.now c.loop-stamped.stamped-index _ c.from_residual.ensures.0 c.loop-stamped-test.true c.stamped-item.is c.loop-stamped.invariant c.in_err-add_log_line.ensures
