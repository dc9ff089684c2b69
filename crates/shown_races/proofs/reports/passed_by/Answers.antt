use Rattle.std.proofs.Common.{List, sym, ap₂, ◌∙◌, subst}
use Rattle.chart.specs.declared.instance.EventNo.{EventNo}
use Rattle.chart.specs.Charts.{at, chart_lines}
use Rattle.chart.specs.Reports.{ReportView, IsReportIn}
use Rattle.reordering.specs.Completion.Orders.{IsFinishedUpTo}
use Rattle.shown_races.proofs.reports.passed_by.Goals as goal

pub finished_before-requires-clause-report : goal.finished_before-requires-clause-report
finished_before-requires-clause-report c =
    let report : EventNo → List EventNo → ReportView = λ e es. record { receive = e; earlier = es } in
    let same = ap₂ (λ (e : EventNo) (es : List EventNo). report e es) (sym c.receive.ensures) (sym (c.as_slice.ensures.events ∙ c.earlier.ensures)) in
    subst (IsReportIn (chart_lines c.in-Some.completion.now)) same (rw c.in-Some.is at c.requires)

pub returns-in-Some : goal.returns-in-Some
returns-in-Some c =
    rw c.in-Some.is (subst (λ (e : EventNo). IsFinishedUpTo (chart_lines c.in-Some.completion.now) (at e.instance e.index) c.finished_before.result) c.receive.ensures c.finished_before.ensures)
