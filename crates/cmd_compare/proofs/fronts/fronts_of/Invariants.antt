use Rattle.std.proofs.Common.{◌≡◌, ◌+◌, ◌*◌, List, length}
use Rattle.std.specs.Prelude.{replicate}
use Rattle.chart.specs.declared.line.TheConstants.{MAX_EVENTS}
use Rattle.chart.specs.Reports.{ReportView}
use Rattle.closure.specs.Reported.{HaveReported, reports_left}
use Rattle.cmd_compare.specs.Fronts.{with_fronts}
use Rattle.cmd_compare.proofs.fronts.fronts_of.Given as goal

-- the fronts of the reports so far are stored
abbrev pub invariant-loop-receive : goal.invariant-loop-receive
invariant-loop-receive l =
    (l.reporter.lines ≡ l.closure) × ((reports : List ReportView) × HaveReported l.closure l.reporter.line l.reporter.place reports × (l.fronts.items ≡ with_fronts (replicate (length l.closure * MAX_EVENTS + 1) 0) reports))

abbrev pub decreases-loop-receive : goal.decreases-loop-receive
decreases-loop-receive l = reports_left l.reporter
