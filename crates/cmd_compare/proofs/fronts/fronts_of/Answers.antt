use Rattle.std.proofs.Common.{ℕ, ◌+◌, ◌*◌, List, [], ◌∷◌, ◌++◌, length, refl, sym, ap, ◌∙◌, subst}
use Rattle.std.specs.Prelude.{replicate}
use Rattle.std.proofs.lemmas.List.{length-replicate}
use Rattle.std.proofs.lemmas.List.Elements.{All-nil}
use Rattle.chart.specs.declared.line.TheConstants.{MAX_EVENTS}
use Rattle.chart.specs.Charts.{LineView, chart_lines}
use Rattle.chart.specs.Reports.{ReportView, IsReportIn, AreReports}
use Rattle.closure.specs.Reported.{HaveReported, ReporterView}
use Rattle.cmd_compare.specs.Fronts.{front_by, with_front, HasFronts}
use Rattle.cmd_compare.proofs.FrontLemmas.{fronts_are, with_fronts-push}
use Rattle.cmd_compare.proofs.fronts.fronts_of.Goals as goal

pub loop-receive-init : goal.loop-receive-init
loop-receive-init c =
    let lines = c.args.closure.now in (
      ap (λ (r : ReporterView). r.lines) c.in_ok-reporter.ensures,
      (
        [],
        subst (λ (r : ReporterView). HaveReported lines r.line r.place []) (sym c.in_ok-reporter.ensures) (record { are = record { receives = refl; each = All-nil (IsReportIn (chart_lines lines)) } }),
        c.in_ok-fronts.ensures ∙ ap (λ n. replicate (n * MAX_EVENTS + 1) 0) c.len.ensures.value,
      ),
    )

pub loop-receive-preserved : goal.loop-receive-preserved
loop-receive-preserved c =
    let same = c.loop-receive.invariant.0 in
    let so_far = c.loop-receive.invariant.1 in
    let reports = so_far.0 in
    let found : ReportView = record { receive = c.in-Some.receive; earlier = c.next.new.self.earlier } in
    let all = reports ++ found ∷ [] in
    let had = c.in-Some.ensures.reported reports (subst (λ (ls : List LineView). HaveReported ls c.loop-receive.reporter.line c.loop-receive.reporter.place reports) (sym same) so_far.1) in
    let none = replicate (length c.args.closure.now * MAX_EVENTS + 1) 0 in (
      c.next.ensures.lines ∙ same,
      (
        all,
        subst (λ (ls : List LineView). HaveReported ls c.next.new.self.line c.next.new.self.place all) same had,
        c.put.ensures ∙ ap (λ k. with_front c.loop-receive.fronts.items c.in-Some.receive k) (c.front_by-front.ensures ∙ ap (front_by c.in-Some.receive) c.earlier.ensures.events)
            ∙ ap (λ (l : List ℕ). with_front l c.in-Some.receive (front_by c.in-Some.receive c.next.new.self.earlier)) so_far.2 ∙ sym (with_fronts-push reports found none),
      ),
    )

pub returns-clause-fronts : goal.returns-clause-fronts
returns-clause-fronts c =
    let so_far = c.loop-receive.invariant.1 in
    let lines = c.args.closure.now in
    let none = replicate (length lines * MAX_EVENTS + 1) 0 in
    let are = subst (λ (ls : List LineView). AreReports ls so_far.0) c.loop-receive.invariant.0 (c.in_default.ensures.reported so_far.0 (subst (λ (ls : List LineView). HaveReported ls c.loop-receive.reporter.line c.loop-receive.reporter.place so_far.0) (sym c.loop-receive.invariant.0) so_far.1)) in
    subst (HasFronts (chart_lines lines)) (sym so_far.2) (fronts_are lines c.len.ensures.possible so_far.0 are none (length-replicate (length lines * MAX_EVENTS + 1) 0))
