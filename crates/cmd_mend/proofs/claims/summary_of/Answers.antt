use Rattle.std.proofs.Common.{◌≡◌, ◌+◌, List, [], ◌∷◌, ◌++◌, take, All, sym, ap, ◌∙◌, subst, arith}
use Rattle.std.proofs.lemmas.List.{take_all, take_more}
use Rattle.chart.specs.Reports.{ReportView}
use Rattle.races_text.specs.Judged.LogVerdicts.{IsReceiveAndEvent, verdict_in}
use Rattle.races_text.specs.Judged.Summaries.{summary_of_none}
use Rattle.races_text.specs.declared.judged.summary.RaceSummary.{RaceSummary}
use Rattle.cmd_mend.specs.Claims.{SumsAll, summary_after_all}
use Rattle.cmd_mend.specs.Claims.AreAllVerdicts.{nothing}
use Rattle.cmd_mend.proofs.ClaimLemmas.{report_push, after_both}
use Rattle.cmd_mend.proofs.claims.summary_of.Goals as goal

pub loop-report-init : goal.loop-report-init
loop-report-init c = ([], nothing, c.none-sum.ensures)

pub with_report-requires : goal.with_report-requires
with_report-requires c =
    subst (λ (r : ReportView). All (IsReceiveAndEvent c.args.judge.now.lines r.receive) r.earlier) (sym c.report-item.is) (c.requires c.loop-report.report-index c.report-item.result c.loop-report-test.true)

pub loop-report-preserved : goal.loop-report-preserved
loop-report-preserved c =
    let i = c.loop-report.report-index in
    let reports = c.args.reports.now in
    let r = c.report-item.result in
    let is = verdict_in c.args.judge.now.lines c.args.judge.now.recording in
    let one : take (i + 1) reports ≡ take i reports ++ r ∷ [] = take_more reports i r (omega arith) ∙ ap (λ x. take i reports ++ x ∷ []) (sym c.report-item.is) in
    let before = c.loop-report.invariant in
    let last = c.in_ok-sum.ensures in
    subst (λ (l : List ReportView). SumsAll is l c.in_ok-sum.sum) (sym one) (
      before.0 ++ last.0,
      report_push r last.0 last.1 before.1,
      last.2 ∙ ap (λ (s : RaceSummary). summary_after_all s last.0) before.2 ∙ sym (after_both summary_of_none before.0 last.0),
    )

pub returns : goal.returns
returns c =
    subst (λ (l : List ReportView). SumsAll (verdict_in c.args.judge.now.lines c.args.judge.now.recording) l c.loop-report.sum)
    (take_all c.loop-report.report-index c.args.reports.now (omega arith)) c.loop-report.invariant
