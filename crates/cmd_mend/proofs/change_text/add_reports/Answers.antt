use Rattle.texts.proofs.Writes.{buffers_more_read, adds_in_read}
use Rattle.cmd_mend.specs.ChangeText.{report_text}
use Rattle.cmd_mend.proofs.change_text.add_reports.Goals as goal

pub loop-report-preserved : goal.loop-report-preserved
loop-report-preserved g c = buffers_more_read (report_text c.args.word c.args.names.now c.args.lines.now) c.args.reports.now c.loop-report.report-index _ c.loop-report-test.true c.report-item.is c.loop-report.invariant c.in_ok-add_report.ensures

pub returns-in_err-add_report : goal.returns-in_err-add_report
returns-in_err-add_report g c = adds_in_read (report_text c.args.word c.args.names.now c.args.lines.now) c.from_residual.result c.args.reports.now c.loop-report.report-index _ c.from_residual.ensures.0 c.loop-report-test.true c.report-item.is c.loop-report.invariant c.in_err-add_report.ensures
