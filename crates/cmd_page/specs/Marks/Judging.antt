-- The races of a page by their verdicts (this project's own).
use Rattle.std.specs.Prelude.{List, [], ◌∷◌, ◌++◌, ◌==◌, not, length, map, All, Option, None, Some, Bool, true, false, if◌then◌else◌}
use Rattle.std.specs.List.{list_any}
use Rattle.chart.specs.declared.instance.EventNo.{EventNo}
use Rattle.chart.specs.Charts.{LineView}
use Rattle.chart.specs.Reports.{ReportView, AreReports}
use Rattle.race_verdicts.specs.Recordings.{RecordingView}
use Rattle.race_verdicts.specs.declared.verdict.Verdict.{Verdict}
use Rattle.races_text.specs.Judged.LogVerdicts.{IsReceiveAndEvent, verdict_in}
use Rattle.races_text.specs.Judged.Parts.{AreParts}
use Rattle.races_text.specs.Judged.Summaries.{is_claimed}
use Rattle.races_text.specs.declared.judged.part.Part.{Part}
use Rattle.cmd_page.specs.declared.marks.pairs.RaceRange.{RaceRange}

-- neighbouring earlier events of a receive, with the verdict that all of their races have
abbrev pub judged_pair : EventNo → Part → RaceRange
judged_pair receive part = record { receive = receive; earlier = part.range; verdict = Some part.verdict }

-- the races of these reports, if this is the verdict of a receive and an earlier event: for each report the ranges of its
-- earlier events that have one verdict, each as long as it can be
pub data AreJudged (is : EventNo → EventNo → Verdict → Type 0) : List ReportView → List RaceRange → Type 0 where
  none : AreJudged is [] []
  more : {report : ReportView} {parts : List Part} {reports : List ReportView} {races : List RaceRange}
      → AreParts (is report.receive) report.earlier parts → AreJudged is reports races
      → AreJudged is (report ∷ reports) (map (judged_pair report.receive) parts ++ races)

-- the same of all reports of a recording's chart
pub record AreJudgedRaces (lines : List LineView) (rec : RecordingView) (races : List RaceRange) : Type 0 where
  pub reports : List ReportView
  pub are : AreReports lines reports
  pub judged : AreJudged (verdict_in lines rec) reports races

-- each race of the report is of a receive and an event of the chart with these lines
abbrev pub IsOfLines : List LineView → ReportView → Type 0
IsOfLines lines report = All (IsReceiveAndEvent lines report.receive) report.earlier

-- a race with this verdict is claimed, if it is known: it isn't begun in the middle
abbrev pub claims : Option Verdict → Bool
claims None = true
claims (Some verdict) = is_claimed verdict

-- there are races, and none of them is claimed: each is begun in the middle
abbrev pub claims_none : List RaceRange → Bool
claims_none races = if length races == 0 then false else not (list_any (λ race. claims race.verdict) races)
