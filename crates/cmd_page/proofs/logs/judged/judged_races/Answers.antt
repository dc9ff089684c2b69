use Rattle.std.proofs.Common.{List, All, sym, ap, subst, subst₂}
use Rattle.chart.specs.Charts.{LineView, IsNumbered}
use Rattle.chart.specs.Reports.{ReportView}
use Rattle.cmd_import_log.specs.Recording.{lent_of}
use Rattle.race_verdicts.specs.Luck.Recorded.{IsRecording, JudgeView}
use Rattle.races_text.specs.Judged.LogVerdicts.{verdict_in}
use Rattle.races_text.proofs.JudgedLemmas.RaceLemmas.{all_races}
use Rattle.cmd_page.specs.Marks.Judging.{AreJudged, AreJudgedRaces, IsOfLines}
use Rattle.cmd_page.proofs.logs.judged.judged_races.Goals as goal

pub verdicts_of-requires : goal.verdicts_of-requires
verdicts_of-requires c = subst (λ (ls : List LineView). IsRecording ls (lent_of c.args.recording.now)) (sym c.in_ok-closure.ensures) c.requires.keeps

pub judged_pairs-requires : goal.judged_pairs-requires
judged_pairs-requires c =
    let numbered = subst IsNumbered (sym c.in_ok-closure.ensures) c.requires.numbered in
    let lines = ap (λ (j : JudgeView). j.lines) c.in_ok-verdicts.ensures in
    subst₂ (λ (ls : List LineView) (rs : List ReportView). All (IsOfLines ls) rs) (sym lines) (sym c.as_slice.ensures.value)
    (all_races c.in_ok-closure.closure numbered c.in_ok-reports.reports.items c.in_ok-reports.ensures)

pub returns-clause-judged : goal.returns-clause-judged
returns-clause-judged c =
    let reports = c.in_ok-reports.reports.items in
    let races = c.in_ok-races.races.items in
    let judged = subst₂ (λ (j : JudgeView) (rs : List ReportView). AreJudged (verdict_in j.lines j.recording) rs races) c.in_ok-verdicts.ensures c.as_slice.ensures.value c.in_ok-races.ensures.judged in
    subst (λ (ls : List LineView). AreJudgedRaces ls (lent_of c.args.recording.now) races) c.in_ok-closure.ensures (record { reports = reports; are = c.in_ok-reports.ensures; judged = judged })
