-- The verdicts on the races of a log's recording (this project's profile).
use Rattle.std.specs.Prelude.{List, ℕ}
use Rattle.chart.specs.declared.instance.EventNo.{EventNo}
use Rattle.chart.specs.Charts.{LineView, IsReceiveFrom, at, chart_lines}
use Rattle.chart.specs.Places.{IsEvent}
use Rattle.race_verdicts.specs.Luck.Verdicts.{IsVerdict}
use Rattle.race_verdicts.specs.Recordings.{RecordingView}
use Rattle.race_verdicts.specs.declared.verdict.Verdict.{Verdict}

-- a receive and an event of the chart with these lines
abbrev pub IsReceiveAndEvent : List LineView → EventNo → EventNo → Type 0
IsReceiveAndEvent lines r e = ((q : ℕ) × IsReceiveFrom (chart_lines lines) q (at r.instance r.index))
    × IsEvent (chart_lines lines) (at e.instance e.index)

-- this is the verdict of a race in a recording, with the lines of its chart
abbrev pub verdict_in : List LineView → RecordingView → EventNo → EventNo → Verdict → Type 0
verdict_in lines rec r e verdict = IsVerdict lines rec (at r.instance r.index) (at e.instance e.index) verdict
