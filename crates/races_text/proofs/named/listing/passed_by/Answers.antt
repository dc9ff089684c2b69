use Rattle.std.proofs.Common.{List, subst, sym}
use Rattle.chart.specs.Charts.{LineView, at, chart_lines}
use Rattle.chart.specs.Ranges.{events_in}
use Rattle.chart.specs.Reports.{IsReportIn}
use Rattle.reordering.specs.Completion.Orders.{IsFinishedUpTo}
use Rattle.races_text.proofs.named.listing.passed_by.Goals as goal

pub finished_before-requires-clause-report : goal.finished_before-requires-clause-report
finished_before-requires-clause-report c =
    let same = rw c.in-Some.is at c.requires.completion in
    subst (λ (ls : List LineView). IsReportIn (chart_lines ls) (record { receive = c.args.receive.now; earlier = events_in c.args.earlier.now })) (sym same) c.requires.report

pub returns-in-Some : goal.returns-in-Some
returns-in-Some c =
    let same = rw c.in-Some.is at c.requires.completion in
    let r = c.args.receive.now in
    rw c.in-Some.is (subst (λ (ls : List LineView). IsFinishedUpTo (chart_lines ls) (at r.instance r.index) c.finished_before.result) same c.finished_before.ensures)
