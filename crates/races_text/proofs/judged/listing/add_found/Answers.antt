use Rattle.std.proofs.Common.{◌≡◌, List, [], ◌∷◌, ◌++◌, All, refl, sym, ◌∙◌, subst, length, append-nil}
use Rattle.std.proofs.lemmas.List.Elements.{Contains-push, Contains-append_left}
use Rattle.chart.specs.declared.instance.EventNo.{EventNo}
use Rattle.chart.specs.Charts.{LineView, chart_lines}
use Rattle.chart.specs.Reports.{ReportView, IsReportIn, AreReports}
use Rattle.closure.specs.Reported.{HaveReported}
use Rattle.reordering.proofs.CompletionLemmas.Possible.{is_sound}
use Rattle.shown_races.specs.Selected.{IsSelectedOf}
use Rattle.shown_races.specs.Selected.AreSelectedOf.{none}
use Rattle.texts.specs.Writing.{Adds}
use Rattle.texts.proofs.Writes.{buffers_nothing}
use Rattle.races_text.proofs.NamedLemmas.FoundRaces.{adds_next, stops_at_next, vacuous}
use Rattle.races_text.proofs.NamedLemmas.LaterRaces.{last_of_all}
use Rattle.shown_races.proofs.SelectedLemmas.{selected_exist, selected_append, selected_push, selected_are}
use Rattle.races_text.specs.Judged.Listing.{PartedReport, luck_manner, report_text, luck_text, summary_of}
use Rattle.races_text.specs.declared.judged.summary.RaceSummary.{RaceSummary}
use Rattle.races_text.specs.Judged.Listing.AreParted.{none as none_parted}
use Rattle.races_text.proofs.JudgedLemmas.FoundParts.{parted_push, parted_last, parted_early, are_races}
use Rattle.races_text.proofs.JudgedLemmas.SummaryLemmas.{summary_next}
use Rattle.races_text.proofs.judged.listing.add_found.Goals as goal

pub loop-receive-init : goal.loop-receive-init
loop-receive-init g c = (refl, ([], [], [], c.requires.reporter, none, none_parted, buffers_nothing c.args.text.now, c.none-summary.ensures))

pub add_report-requires-clause-report : goal.add_report-requires-clause-report
add_report-requires-clause-report g c =
    let query = c.args.query.now.query in
    let same = c.loop-receive.invariant.0 in
    let so_far = c.loop-receive.invariant.1 in
    let reports = so_far.0 in
    let found : ReportView = record { receive = c.in-Some.receive; earlier = c.next.new.self.earlier } in
    let old = c.loop-receive.reporter.lines in
    let had = c.in-Some.ensures.reported reports (subst (λ (ls : List LineView). HaveReported ls c.loop-receive.reporter.line c.loop-receive.reporter.place reports) (sym same) so_far.3) in
    let is = last_of_all (IsReportIn (chart_lines old)) reports found had.are.each in
    subst (λ (es : List EventNo). IsReportIn (chart_lines query.lines.now) (record { receive = c.in-Some.receive; earlier = es })) (sym c.earlier.ensures.events)
    (subst (λ (ls : List LineView). IsReportIn (chart_lines ls) found) (same ∙ sym c.requires.lines) is)

pub add_report-requires-clause-races : goal.add_report-requires-clause-races
add_report-requires-clause-races g c =
    let query = c.args.query.now.query in
    let same = c.loop-receive.invariant.0 in
    let so_far = c.loop-receive.invariant.1 in
    let reports = so_far.0 in
    let found : ReportView = record { receive = c.in-Some.receive; earlier = c.next.new.self.earlier } in
    let all = reports ++ found ∷ [] in
    let had = c.in-Some.ensures.reported reports (subst (λ (ls : List LineView). HaveReported ls c.loop-receive.reporter.line c.loop-receive.reporter.place reports) (sym same) so_far.3) in
    let whole = c.in-Some.ensures.whole all (subst (λ (ls : List LineView). HaveReported ls c.next.new.self.line c.next.new.self.place all) (sym c.next.ensures.lines) had) in
    let reported = subst (λ (ls : List LineView). AreReports ls (all ++ whole.0)) (c.next.ensures.lines ∙ same ∙ sym c.requires.lines) whole.1 in
    let race = g.V.Verdicts.is_race c.args.query.now.verdicts.now in
    subst (All (race c.in-Some.receive)) (sym c.earlier.ensures.events)
    (are_races race query.lines.now c.requires.races (all ++ whole.0) reported found (Contains-append_left all whole.0 found (Contains-push reports found)))

pub loop-receive-preserved : goal.loop-receive-preserved
loop-receive-preserved g c =
    let query = c.args.query.now.query in
    let manner = luck_manner c.args.query.now in
    let verdict = g.V.Verdicts.is_verdict c.args.query.now.verdicts.now in
    let chart = chart_lines query.lines.now in
    let text = report_text manner query.names.now query.lines.now in
    let same = c.loop-receive.invariant.0 in
    let so_far = c.loop-receive.invariant.1 in
    let reports = so_far.0 in
    let found : ReportView = record { receive = c.in-Some.receive; earlier = c.next.new.self.earlier } in
    let all = reports ++ found ∷ [] in
    let added = c.in_ok-more.ensures in
    let had = c.in-Some.ensures.reported reports (subst (λ (ls : List LineView). HaveReported ls c.loop-receive.reporter.line c.loop-receive.reporter.place reports) (sym same) so_far.3) in
    let its = subst (λ (es : List EventNo). IsSelectedOf manner.races.completed chart (record { receive = c.in-Some.receive; earlier = es }) added.0) c.earlier.ensures.events added.1 in (
      c.next.ensures.lines ∙ same,
      (
        all,
        so_far.1 ++ added.0 ∷ [],
        so_far.2 ++ added.2 ∷ [],
        subst (λ (ls : List LineView). HaveReported ls c.next.new.self.line c.next.new.self.place all) same had,
        selected_push chart found added.0 so_far.4 its,
        parted_push verdict manner.races query.lines.now added.0 added.2 so_far.5 added.3,
        adds_next text so_far.2 added.2 so_far.6 added.4,
        c.either-summary.ensures ∙ summary_next manner so_far.2 added.2 c.loop-receive.summary c.in_ok-more.more so_far.7 added.5,
      ),
    )

pub returns-in_err-more : goal.returns-in_err-more
returns-in_err-more g c =
    let query = c.args.query.now.query in
    let manner = luck_manner c.args.query.now in
    let verdict = g.V.Verdicts.is_verdict c.args.query.now.verdicts.now in
    let lines = query.lines.now in
    let chart = chart_lines lines in
    let text = report_text manner query.names.now lines in
    let same = c.loop-receive.invariant.0 in
    let so_far = c.loop-receive.invariant.1 in
    let reports = so_far.0 in
    let found : ReportView = record { receive = c.in-Some.receive; earlier = c.next.new.self.earlier } in
    let all = reports ++ found ∷ [] in
    let added = c.in_err-more.ensures in
    let had = c.in-Some.ensures.reported reports (subst (λ (ls : List LineView). HaveReported ls c.loop-receive.reporter.line c.loop-receive.reporter.place reports) (sym same) so_far.3) in
    let whole = c.in-Some.ensures.whole all (subst (λ (ls : List LineView). HaveReported ls c.next.new.self.line c.next.new.self.place all) (sym c.next.ensures.lines) had) in
    let its = subst (λ (es : List EventNo). IsSelectedOf manner.races.completed chart (record { receive = c.in-Some.receive; earlier = es }) added.0) c.earlier.ensures.events added.1 in
    let rest = selected_exist chart (is_sound (length lines) chart c.requires.possible) manner.races.completed whole.0 in
    let shown = (so_far.1 ++ added.0 ∷ []) ++ rest.0 in
    let parted : List PartedReport = so_far.2 ++ added.2 ∷ [] in
    let failed = c.from_residual.ensures.0 in
    let reported = subst (λ (ls : List LineView). AreReports ls (all ++ whole.0)) (c.next.ensures.lines ∙ same ∙ sym c.requires.lines) whole.1 in (
      shown,
      parted,
      selected_are manner.races.completed (length lines) lines (all ++ whole.0) shown c.requires.possible reported (selected_append chart (selected_push chart found added.0 so_far.4 its) rest.1),
      parted_early verdict manner.races lines c.from_residual.result failed (parted_last verdict manner.races lines added.0 added.2 rest.0 so_far.5 added.3),
      subst (λ (ps : List PartedReport). Adds g.W.Out.sink c.args.text.now c.add_report.new.text c.from_residual.result (luck_text manner query.names.now lines ps)) (append-nil parted)
          (stops_at_next text c.from_residual.result so_far.2 added.2 [] failed so_far.6 added.4),
      vacuous (λ (summary : RaceSummary). summary ≡ summary_of manner parted) c.from_residual.result failed,
    )

pub returns : goal.returns
returns g c =
    let query = c.args.query.now.query in
    let manner = luck_manner c.args.query.now in
    let lines = query.lines.now in
    let same = c.loop-receive.invariant.0 in
    let so_far = c.loop-receive.invariant.1 in
    let reports = so_far.0 in
    let had = c.in_default.ensures.reported reports (subst (λ (ls : List LineView). HaveReported ls c.loop-receive.reporter.line c.loop-receive.reporter.place reports) (sym same) so_far.3) in
    let reported = subst (λ (ls : List LineView). AreReports ls reports) (same ∙ sym c.requires.lines) had in
    (so_far.1, so_far.2, selected_are manner.races.completed (length lines) lines reports so_far.1 c.requires.possible reported so_far.4, so_far.5, so_far.6, so_far.7)
