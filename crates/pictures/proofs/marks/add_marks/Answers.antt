use Rattle.texts.proofs.Writes.{buffers_more_read, adds_in_read}
use Rattle.pictures.specs.MarkText.{marks}
use Rattle.pictures.proofs.marks.add_marks.Goals as goal

pub loop-report-preserved : goal.loop-report-preserved
loop-report-preserved g c = buffers_more_read (marks c.args.picture.now) c.args.reports.now c.loop-report.report-index _ c.loop-report-test.true c.report-item.is c.loop-report.invariant c.in_ok-add_report.ensures

pub returns-in_err-add_report : goal.returns-in_err-add_report
returns-in_err-add_report g c = adds_in_read (marks c.args.picture.now) c.from_residual.result c.args.reports.now c.loop-report.report-index _ c.from_residual.ensures.0 c.loop-report-test.true c.report-item.is c.loop-report.invariant c.in_err-add_report.ensures
