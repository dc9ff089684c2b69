use Rattle.std.proofs.Common.{◌≡◌}
use Rattle.closure.specs.Reported.{HaveReported, reports_left}
use Rattle.closure.proofs.reporting.reports_of.Given as goal

abbrev pub invariant-loop-receive : goal.invariant-loop-receive
invariant-loop-receive l = (l.reporter.lines ≡ l.fn.linked) × HaveReported l.fn.linked l.reporter.line l.reporter.place l.reports.items

abbrev pub decreases-loop-receive : goal.decreases-loop-receive
decreases-loop-receive l = reports_left l.reporter
