use Rattle.std.proofs.Common.{◌≡◌, ◌+◌, List, [], ◌∷◌, ◌++◌, take, All, sym, ap, ◌∙◌, subst, arith}
use Rattle.std.proofs.lemmas.List.{take_all, take_more}
use Rattle.chart.specs.Reports.{ReportView}
use Rattle.races_text.specs.Judged.LogVerdicts.{IsReceiveAndEvent, verdict_in}
use Rattle.cmd_mend.specs.Luck.{AreLuckOf}
use Rattle.cmd_mend.specs.Luck.AreLuckOf.{nothing}
use Rattle.cmd_mend.proofs.LuckLemmas.{luck_placed}
use Rattle.cmd_mend.proofs.logs.lucky_reports.Goals as goal

pub loop-report-init : goal.loop-report-init
loop-report-init c = subst (λ (l : List ReportView). AreLuckOf (verdict_in c.args.judge.now.lines c.args.judge.now.recording) [] l) (sym c.new-lucky.ensures.items) nothing

pub add_report-requires : goal.add_report-requires
add_report-requires c =
    subst (λ (r : ReportView). All (IsReceiveAndEvent c.args.judge.now.lines r.receive) r.earlier) (sym c.report-item.is) (c.requires c.loop-report.report-index c.report-item.result c.loop-report-test.true)

pub loop-report-preserved : goal.loop-report-preserved
loop-report-preserved c =
    let i = c.loop-report.report-index in
    let reports = c.args.reports.now in
    let r = c.report-item.result in
    let is = verdict_in c.args.judge.now.lines c.args.judge.now.recording in
    let one : take (i + 1) reports ≡ take i reports ++ r ∷ [] = take_more reports i r (omega arith) ∙ ap (λ x. take i reports ++ x ∷ []) (sym c.report-item.is) in
    subst (λ (l : List ReportView). AreLuckOf is l c.add_report.new.lucky.items) (sym one) (c.in_ok-add_report.ensures (take i reports) c.loop-report.invariant)

pub returns-clause-luck : goal.returns-clause-luck
returns-clause-luck c =
    subst (λ (l : List ReportView). AreLuckOf (verdict_in c.args.judge.now.lines c.args.judge.now.recording) l c.loop-report.lucky.items) (take_all c.loop-report.report-index c.args.reports.now (omega arith)) c.loop-report.invariant

pub returns-clause-placed : goal.returns-clause-placed
returns-clause-placed c =
    luck_placed c.args.judge.now.lines
    (subst (λ (l : List ReportView). AreLuckOf (verdict_in c.args.judge.now.lines c.args.judge.now.recording) l c.loop-report.lucky.items) (take_all c.loop-report.report-index c.args.reports.now (omega arith)) c.loop-report.invariant) c.requires
