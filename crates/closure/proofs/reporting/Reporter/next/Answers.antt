use Rattle.std.proofs.Common.{◌+◌, ap, arith}
use Rattle.chart.specs.declared.instance.EventNo.{EventNo}
use Rattle.closure.proofs.ReportLemmas.{HaveReported-receive}
use Rattle.closure.proofs.WholeReports.{reports_go_on}
use Rattle.closure.proofs.reporting.Reporter.next.Goals as goal

pub find_report-event-requires-clause-known : goal.find_report-event-requires-clause-known
find_report-event-requires-clause-known c = rw c.as_slice.ensures.value c.self.invariant.0.knows

pub returns-clause-reported : goal.returns-clause-reported
returns-clause-reported c =
    rw (← c.self.view_is) (λ reports had. HaveReported-receive c.self.inside.linked c.in-Some.receive.line c.in-Some.receive.place reports (record { receive = c.find_report-event.result; earlier = _ }) (c.in-Some.ensures.reported reports had) c.find_report-event.ensures.report)

pub returns-clause-whole : goal.returns-clause-whole
returns-clause-whole c reports had =
    let lines = c.self.inside.linked in
    let chart = c.self.invariant.0.chart in
    reports_go_on lines chart.chart.numbered chart.possible c.in-Some.receive.line (c.in-Some.receive.place + 1) reports c.in-Some.ensures.receive.0 (omega (arith, c.in-Some.ensures.receive.1)) had

pub returns-clause-instance : goal.returns-clause-instance
returns-clause-instance c =
    let same = ap (λ (e : EventNo). e.instance) c.find_report-event.ensures.report.1 in omega (arith, same, c.in-Some.ensures.receive.0)
