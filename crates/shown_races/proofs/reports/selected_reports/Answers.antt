use Rattle.std.proofs.Common.{◌≡◌, ◌≤◌, ◌+◌, Bor, List, [], length, take, filter, sym, ap, ◌∙◌, subst, arith}
use Rattle.chart.specs.declared.event.Event.{Event}
use Rattle.chart.specs.declared.instance.EventNo.{EventNo}
use Rattle.chart.specs.Charts.{at, LineView, chart_lines}
use Rattle.chart.specs.Reports.{IsReportIn}
use Rattle.reordering.specs.declared.completion.completion.Completion.{Completion}
use Rattle.shown_races.specs.Kept.{is_kept_after}
use Rattle.shown_races.specs.Selected.{is_there}
use Rattle.shown_races.specs.Selected.AreSelectedOf.{none}
use Rattle.shown_races.proofs.ShownLemmas.{HaveShown, shown_next, shown_all, some_also, passed_is}
use Rattle.shown_races.proofs.reports.selected_reports.Goals as goal

pub loop-report-init : goal.loop-report-init
loop-report-init c = ([], none, c.new-shown.ensures.items)

pub passed_by-passed-requires : goal.passed_by-passed-requires
passed_by-passed-requires c =
    let lines = c.args.lines.now in
    let report = c.report-item.result in
    let is = subst (IsReportIn (chart_lines lines)) (sym c.report-item.is) (c.requires.reports.are.each c.loop-report.report-index report c.loop-report-test.true) in
    some_also (λ (k : Bor Completion). k.now ≡ lines) (λ (k : Bor Completion). IsReportIn (chart_lines k.now) report) (λ k same. subst (λ (ls : List LineView). IsReportIn (chart_lines ls) report) (sym same) is) c.args.completion c.requires.completion

pub loop-report-preserved : goal.loop-report-preserved
loop-report-preserved c =
    let lines = c.args.lines.now in
    let only = c.args.only in
    let completed = is_there c.args.completion in
    let report = c.report-item.result in
    let passed = c.passed_by-passed.result in
    let kept = c.in_ok-kept.kept in
    let i = c.loop-report.report-index in
    let events = c.events_of-events.ensures.events ∙ ap (λ (e : EventNo). chart_lines lines e.instance) c.receive.ensures in
    let its = c.in_ok-kept.ensures ∙ ap (λ (es : List Event). record { receive = report.receive; earlier = filter (is_kept_after es only passed) report.earlier }) events in
    let is_passed = passed_is c.args.completion lines (at report.receive.instance report.receive.index) passed c.requires.completion c.passed_by-passed.ensures in
    subst (HaveShown only completed lines (take (i + 1) c.args.reports.now)) (sym c.in_ok-push.ensures.items)
    (shown_next only completed lines c.args.reports.now i report kept passed c.loop-report.shown.items c.loop-report-test.true c.report-item.is is_passed its c.loop-report.invariant)

pub returns : goal.returns
returns c =
    let beyond : length c.args.reports.now ≤ c.loop-report.report-index = omega (arith, c.loop-report-test.false) in
    shown_all c.args.only (is_there c.args.completion) c.args.lines.now c.args.reports.now c.loop-report.shown.items c.loop-report.report-index beyond c.requires.possible c.requires.reports c.loop-report.invariant
