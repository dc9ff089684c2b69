use Rattle.std.proofs.Common.{◌∙◌}
use Rattle.texts.proofs.Writes.{buffers_more, adds_in}
use Rattle.msc_text.specs.RaceText.{report_text}
use Rattle.msc_text.proofs.race_text.add_races.Goals as goal

pub loop-report-preserved : goal.loop-report-preserved
loop-report-preserved g c = buffers_more (report_text c.args.names.now) c.args.reports.now c.loop-report.report-index c.report-item.result c.loop-report-test.true c.loop-report.invariant (rw (← c.report-item.is, ← c.receive.ensures, ← (c.as_slice.ensures.events ∙ c.earlier.ensures)) c.in_ok-add_report.ensures)

pub returns-in_err-add_report : goal.returns-in_err-add_report
returns-in_err-add_report g c = adds_in (report_text c.args.names.now) c.from_residual.result c.args.reports.now c.loop-report.report-index c.report-item.result c.from_residual.ensures.0 c.loop-report-test.true c.loop-report.invariant (rw (← c.report-item.is, ← c.receive.ensures, ← (c.as_slice.ensures.events ∙ c.earlier.ensures)) c.in_err-add_report.ensures)
