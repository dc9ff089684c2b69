use Rattle.std.proofs.Common.{◌≡◌, List, [], ◌∷◌, ◌++◌, length, refl, sym, ◌∙◌, subst}
use Rattle.chart.specs.declared.instance.EventNo.{EventNo}
use Rattle.chart.specs.Charts.{LineView, chart_lines}
use Rattle.chart.specs.Reports.{ReportView, IsReportIn, AreReports}
use Rattle.closure.specs.Reported.{HaveReported}
use Rattle.reordering.proofs.CompletionLemmas.Possible.{is_sound}
use Rattle.races_text.specs.Named.Listing.{manner_of, report_text, has_ranges, shown_of, shows_races}
use Rattle.shown_races.specs.Selected.{IsSelectedOf}
use Rattle.shown_races.specs.Selected.AreSelectedOf.{none}
use Rattle.texts.proofs.Writes.{buffers_nothing}
use Rattle.races_text.proofs.NamedLemmas.FoundRaces.{adds_next, stops_at_next, any_more, vacuous}
use Rattle.races_text.proofs.NamedLemmas.LaterRaces.{last_of_all}
use Rattle.shown_races.proofs.SelectedLemmas.{selected_exist, selected_append, selected_push, selected_are}
use Rattle.races_text.proofs.named.listing.add_found.Goals as goal

pub loop-receive-init : goal.loop-receive-init
loop-receive-init g c = (refl, ([], [], c.requires.reporter, none, buffers_nothing c.args.text.now, refl))

pub add_report-requires-clause-report : goal.add_report-requires-clause-report
add_report-requires-clause-report g c =
    let selected = c.args.selected.now in
    let same = c.loop-receive.invariant.0 in
    let so_far = c.loop-receive.invariant.1 in
    let reports = so_far.0 in
    let found : ReportView = record { receive = c.in-Some.receive; earlier = c.next.new.self.earlier } in
    let old = c.loop-receive.reporter.lines in
    let had = c.in-Some.ensures.reported reports (subst (λ (ls : List LineView). HaveReported ls c.loop-receive.reporter.line c.loop-receive.reporter.place reports) (sym same) so_far.2) in
    let is = last_of_all (IsReportIn (chart_lines old)) reports found had.are.each in
    subst (λ (es : List EventNo). IsReportIn (chart_lines selected.lines.now) (record { receive = c.in-Some.receive; earlier = es })) (sym c.earlier.ensures.events)
    (subst (λ (ls : List LineView). IsReportIn (chart_lines ls) found) (same ∙ sym c.requires.lines) is)

pub loop-receive-preserved : goal.loop-receive-preserved
loop-receive-preserved g c =
    let selected = c.args.selected.now in
    let manner = manner_of selected in
    let chart = chart_lines selected.lines.now in
    let text = report_text manner selected.names.now selected.lines.now in
    let same = c.loop-receive.invariant.0 in
    let so_far = c.loop-receive.invariant.1 in
    let reports = so_far.0 in
    let found : ReportView = record { receive = c.in-Some.receive; earlier = c.next.new.self.earlier } in
    let all = reports ++ found ∷ [] in
    let added = c.in_ok-has.ensures in
    let had = c.in-Some.ensures.reported reports (subst (λ (ls : List LineView). HaveReported ls c.loop-receive.reporter.line c.loop-receive.reporter.place reports) (sym same) so_far.2) in
    let its = subst (λ (es : List EventNo). IsSelectedOf manner.completed chart (record { receive = c.in-Some.receive; earlier = es }) added.0) c.earlier.ensures.events added.1 in (
      c.next.ensures.lines ∙ same,
      (
        all,
        so_far.1 ++ added.0 ∷ [],
        subst (λ (ls : List LineView). HaveReported ls c.next.new.self.line c.next.new.self.place all) same had,
        selected_push chart found added.0 so_far.3 its,
        adds_next text so_far.1 added.0 so_far.4 added.2,
        c.either-has_races.ensures ∙ any_more (λ (report : ReportView). has_ranges (shown_of manner selected.lines.now report)) so_far.1 added.0 c.loop-receive.has_races c.in_ok-has.has so_far.5 added.3,
      ),
    )

pub returns-in_err-has : goal.returns-in_err-has
returns-in_err-has g c =
    let selected = c.args.selected.now in
    let manner = manner_of selected in
    let lines = selected.lines.now in
    let chart = chart_lines lines in
    let text = report_text manner selected.names.now lines in
    let same = c.loop-receive.invariant.0 in
    let so_far = c.loop-receive.invariant.1 in
    let reports = so_far.0 in
    let found : ReportView = record { receive = c.in-Some.receive; earlier = c.next.new.self.earlier } in
    let all = reports ++ found ∷ [] in
    let added = c.in_err-has.ensures in
    let had = c.in-Some.ensures.reported reports (subst (λ (ls : List LineView). HaveReported ls c.loop-receive.reporter.line c.loop-receive.reporter.place reports) (sym same) so_far.2) in
    let whole = c.in-Some.ensures.whole all (subst (λ (ls : List LineView). HaveReported ls c.next.new.self.line c.next.new.self.place all) (sym c.next.ensures.lines) had) in
    let its = subst (λ (es : List EventNo). IsSelectedOf manner.completed chart (record { receive = c.in-Some.receive; earlier = es }) added.0) c.earlier.ensures.events added.1 in
    let rest = selected_exist chart (is_sound (length lines) chart c.requires.possible) manner.completed whole.0 in
    let shown = (so_far.1 ++ added.0 ∷ []) ++ rest.0 in
    let reported = subst (λ (ls : List LineView). AreReports ls (all ++ whole.0)) (c.next.ensures.lines ∙ same ∙ sym c.requires.lines) whole.1 in (
      shown,
      selected_are manner.completed (length lines) lines (all ++ whole.0) shown c.requires.possible reported (selected_append chart (selected_push chart found added.0 so_far.3 its) rest.1),
      stops_at_next text c.from_residual.result so_far.1 added.0 rest.0 c.from_residual.ensures.0 so_far.4 added.2,
      vacuous (λ has. has ≡ shows_races manner lines shown) c.from_residual.result c.from_residual.ensures.0,
    )

pub returns : goal.returns
returns g c =
    let selected = c.args.selected.now in
    let manner = manner_of selected in
    let lines = selected.lines.now in
    let same = c.loop-receive.invariant.0 in
    let so_far = c.loop-receive.invariant.1 in
    let reports = so_far.0 in
    let had = c.in_default.ensures.reported reports (subst (λ (ls : List LineView). HaveReported ls c.loop-receive.reporter.line c.loop-receive.reporter.place reports) (sym same) so_far.2) in
    let reported = subst (λ (ls : List LineView). AreReports ls reports) (same ∙ sym c.requires.lines) had in
    (so_far.1, selected_are manner.completed (length lines) lines reports so_far.1 c.requires.possible reported so_far.3, so_far.4, so_far.5)
