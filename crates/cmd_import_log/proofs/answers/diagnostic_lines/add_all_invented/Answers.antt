use Rattle.texts.proofs.Writes.{buffers_more_read, adds_in_read}
use Rattle.cmd_import_log.specs.Answers.DiagnosticLines.{invented_text}
use Rattle.cmd_import_log.proofs.answers.diagnostic_lines.add_all_invented.Goals as goal

pub loop-event-preserved : goal.loop-event-preserved
loop-event-preserved g c = buffers_more_read (invented_text c.args.names.now) c.args.invented.now c.loop-event.event-index _ c.loop-event-test.true c.event-item.is c.loop-event.invariant c.in_ok-add_event.ensures

pub returns-in_err-add_event : goal.returns-in_err-add_event
returns-in_err-add_event g c = adds_in_read (invented_text c.args.names.now) c.from_residual.result c.args.invented.now c.loop-event.event-index _ c.from_residual.ensures.0 c.loop-event-test.true c.event-item.is c.loop-event.invariant c.in_err-add_event.ensures
