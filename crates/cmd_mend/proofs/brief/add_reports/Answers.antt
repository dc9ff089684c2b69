use Rattle.std.proofs.Common.{arith}
use Rattle.cmd_mend.specs.Brief.{shown_of}
use Rattle.cmd_mend.proofs.BriefLemmas.{reports_next, reports_end}
use Rattle.cmd_mend.proofs.brief.add_reports.Goals as goal

pub loop-report-preserved : goal.loop-report-preserved
loop-report-preserved c = reports_next (shown_of c.args.fate) c.args.shown.now.items c.loop-report.shown.items c.add_report.new.shown.items c.args.reports.now c.loop-report.report-index c.report-item.result c.loop-report-test.true c.report-item.is c.loop-report.invariant c.in_ok-add_report.ensures

pub returns : goal.returns
returns c = reports_end (shown_of c.args.fate) c.args.shown.now.items c.loop-report.shown.items c.args.reports.now c.loop-report.report-index (omega (arith, c.loop-report-test.false)) c.loop-report.invariant
