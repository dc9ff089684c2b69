use Rattle.std.proofs.Common.{◌≡◌, List, [], ◌∷◌, ◌++◌, length, nat_lt, ap, refl, sym, ◌∙◌, subst, arith}
use Rattle.chart.specs.Charts.{LineView}
use Rattle.chart.specs.Reports.{ReportView, AreReports, has_races}
use Rattle.closure.specs.Reported.{HaveReported}
use Rattle.texts.proofs.Writes.{buffers_nothing}
use Rattle.cmd_run.proofs.FoundRaces.{adds_one, stops_at_one, has_one_more, vacuous}
use Rattle.cmd_run.proofs.checking.add_found.Goals as goal

pub loop-receive-init : goal.loop-receive-init
loop-receive-init g c = (refl, ([], c.requires.reporter, buffers_nothing c.args.text.now, refl))

pub add_report-requires-clause-named : goal.add_report-requires-clause-named
add_report-requires-clause-named g c =
    let lines = ap length (c.next.ensures.lines ∙ c.loop-receive.invariant.0) in omega (arith, lines, c.in-Some.ensures.instance, c.requires.named)

pub loop-receive-preserved : goal.loop-receive-preserved
loop-receive-preserved g c =
    let same = c.loop-receive.invariant.0 in
    let so_far = c.loop-receive.invariant.1 in
    let reports = so_far.0 in
    let found : ReportView = record { receive = c.in-Some.receive; earlier = c.next.new.self.earlier } in
    let all = reports ++ found ∷ [] in
    let had = c.in-Some.ensures.reported reports (subst (λ (ls : List LineView). HaveReported ls c.loop-receive.reporter.line c.loop-receive.reporter.place reports) (sym same) so_far.1) in (
      c.next.ensures.lines ∙ same,
      (
        all,
        subst (λ (ls : List LineView). HaveReported ls c.next.new.self.line c.next.new.self.place all) same had,
        adds_one c.args.names.now reports found so_far.2 (rw (← c.earlier-earlier.ensures.events) c.in_ok-add_report.ensures),
        c.either-has_races.ensures ∙ has_one_more reports found c.loop-receive.has_races c.has_events.result so_far.3 (c.has_events.ensures ∙ ap (λ es. nat_lt 0 (length es)) c.earlier-earlier.ensures.events),
      ),
    )

pub returns-in_err-add_report : goal.returns-in_err-add_report
returns-in_err-add_report g c =
    let same = c.loop-receive.invariant.0 in
    let so_far = c.loop-receive.invariant.1 in
    let reports = so_far.0 in
    let found : ReportView = record { receive = c.in-Some.receive; earlier = c.next.new.self.earlier } in
    let had = c.in-Some.ensures.reported reports (subst (λ (ls : List LineView). HaveReported ls c.loop-receive.reporter.line c.loop-receive.reporter.place reports) (sym same) so_far.1) in
    let whole = c.in-Some.ensures.whole (reports ++ found ∷ []) (subst (λ (ls : List LineView). HaveReported ls c.next.new.self.line c.next.new.self.place (reports ++ found ∷ [])) (sym c.next.ensures.lines) had) in (
      (reports ++ found ∷ []) ++ whole.0,
      subst (λ (ls : List LineView). AreReports ls ((reports ++ found ∷ []) ++ whole.0)) (c.next.ensures.lines ∙ same) whole.1,
      stops_at_one c.args.names.now c.from_residual.result reports found whole.0 c.from_residual.ensures.0 so_far.2 (rw (← c.earlier-earlier.ensures.events) c.in_err-add_report.ensures),
      vacuous (λ has. has ≡ has_races ((reports ++ found ∷ []) ++ whole.0)) c.from_residual.result c.from_residual.ensures.0,
    )

pub returns : goal.returns
returns g c =
    let so_far = c.loop-receive.invariant.1 in
    (so_far.0, subst (λ (ls : List LineView). AreReports ls so_far.0) c.loop-receive.invariant.0 (c.in_default.ensures.reported so_far.0 (subst (λ (ls : List LineView). HaveReported ls c.loop-receive.reporter.line c.loop-receive.reporter.place so_far.0) (sym c.loop-receive.invariant.0) so_far.1)), so_far.2, so_far.3)
