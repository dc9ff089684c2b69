use Rattle.std.proofs.Common.{◌≤◌, List}
use Rattle.chart.specs.Reports.{ReportView}
use Rattle.closure.specs.Reported.{HaveReported}
use Rattle.closure.proofs.reporting.next_on.Given as goal

-- there is no receive between the first place and this one
abbrev pub invariant-loop-place : goal.invariant-loop-place
invariant-loop-place l = (l.from ≤ l.place) × ((reports : List ReportView) → HaveReported l.linked l.line l.from reports → HaveReported l.linked l.line l.place reports)
