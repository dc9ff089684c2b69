use Rattle.std.proofs.Common.{List, All, ap, ◌∙◌, sym, subst, subst₂}
use Rattle.chart.specs.Charts.{LineView, IsNumbered}
use Rattle.chart.specs.Reports.{ReportView, AreReports}
use Rattle.cmd_import_log.specs.Recording.{lent_of}
use Rattle.race_verdicts.specs.Luck.Recorded.{IsRecording, JudgeView}
use Rattle.races_text.specs.Judged.LogVerdicts.{IsReceiveAndEvent, verdict_in}
use Rattle.races_text.proofs.JudgedLemmas.RaceLemmas.{all_races, all_shown}
use Rattle.repair.specs.Counted.{IsPlaced}
use Rattle.cmd_mend.specs.Claims.{AreUnclaimed}
use Rattle.cmd_mend.specs.Luck.{AreLuckOf, IsLuck}
use Rattle.cmd_mend.proofs.logs.luck_of.Goals as goal

pub judge_of-requires : goal.judge_of-requires
judge_of-requires c = subst (λ (ls : List LineView). IsRecording ls (lent_of c.args.recording.now)) (sym c.in_ok-closure.ensures) c.requires.keeps

pub lucky_reports-requires : goal.lucky_reports-requires
lucky_reports-requires c =
    let numbered = subst IsNumbered (sym c.in_ok-closure.ensures) c.requires.numbered in
    let lines = ap (λ (j : JudgeView). j.lines) c.in_ok-judge.ensures in
    subst₂ (λ (ls : List LineView) (rs : List ReportView). All (λ (r : ReportView). All (IsReceiveAndEvent ls r.receive) r.earlier) rs) (sym lines) (sym c.as_slice.ensures.value)
    (all_races c.in_ok-closure.closure numbered c.in_ok-found.found.items c.in_ok-found.ensures)

pub shown_reports-requires-clause-possible : goal.shown_reports-requires-clause-possible
shown_reports-requires-clause-possible c = c.requires.possible

pub shown_reports-requires-clause-reports : goal.shown_reports-requires-clause-reports
shown_reports-requires-clause-reports c = subst (λ (ls : List LineView). AreReports ls c.in_ok-found.found.items) c.in_ok-closure.ensures c.in_ok-found.ensures

pub are_unclaimed-requires : goal.are_unclaimed-requires
are_unclaimed-requires c =
    let chart = c.args.recording.now.imported.chart in
    let lines = ap (λ (j : JudgeView). j.lines) c.in_ok-judge.ensures ∙ c.in_ok-closure.ensures in
    subst₂ (λ (ls : List LineView) (rs : List ReportView). All (λ (r : ReportView). All (IsReceiveAndEvent ls r.receive) r.earlier) rs) (sym lines) (sym c.as_slice-2.ensures.value)
    (all_shown chart c.requires.numbered c.args.showing c.in_ok-shown.shown.items c.in_ok-shown.ensures)

pub returns-clause-luck : goal.returns-clause-luck
returns-clause-luck c =
    let reports = c.in_ok-found.found.items in
    let luck = c.in_ok-reports.reports.items in
    let lucky = subst₂ (λ (j : JudgeView) (rs : List ReportView). AreLuckOf (verdict_in j.lines j.recording) rs luck) c.in_ok-judge.ensures c.as_slice.ensures.value c.in_ok-reports.ensures.luck in
    subst (λ (ls : List LineView). IsLuck ls (lent_of c.args.recording.now) luck) c.in_ok-closure.ensures (reports, c.in_ok-found.ensures, lucky)

pub returns-clause-placed : goal.returns-clause-placed
returns-clause-placed c =
    subst (λ (ls : List LineView). All (IsPlaced ls) c.in_ok-reports.reports.items) (ap (λ (j : JudgeView). j.lines) c.in_ok-judge.ensures ∙ c.in_ok-closure.ensures) c.in_ok-reports.ensures.placed

pub returns-clause-claims : goal.returns-clause-claims
returns-clause-claims c =
    let shown = c.in_ok-shown.shown.items in
    let by_judge = subst₂ (λ (j : JudgeView) (rs : List ReportView). AreUnclaimed (verdict_in j.lines j.recording) rs c.in_ok-is_unclaimed.is_unclaimed) c.in_ok-judge.ensures c.as_slice-2.ensures.value c.in_ok-is_unclaimed.ensures in
    (shown, c.in_ok-shown.ensures, subst (λ (ls : List LineView). AreUnclaimed (verdict_in ls (lent_of c.args.recording.now)) shown c.in_ok-is_unclaimed.is_unclaimed) c.in_ok-closure.ensures by_judge)
