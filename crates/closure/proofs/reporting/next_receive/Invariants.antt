use Rattle.std.proofs.Common.{◌≡◌, ◌<◌, ◌⊎◌, List}
use Rattle.chart.specs.Reports.{ReportView}
use Rattle.closure.specs.Reported.{HaveReported}
use Rattle.closure.proofs.reporting.next_receive.Given as goal

-- there is no receive between the first place and this one
abbrev pub invariant-loop-next : goal.invariant-loop-next
invariant-loop-next l = (((l.next ≡ l.line) × (l.from ≡ l.place)) ⊎ ((l.line < l.next) × (l.from ≡ 0))) × ((reports : List ReportView) → HaveReported l.linked l.line l.place reports → HaveReported l.linked l.next l.from reports)
