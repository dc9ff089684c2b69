use Rattle.std.proofs.Common.{List}
use Rattle.chart.specs.declared.history.Occurrence.{Occurrence}
use Rattle.chart.specs.Histories.{chart_of}
use Rattle.chart.specs.HistoryLines.{history_lines}
use Rattle.chart.specs.Reports.{AreReportsOf}
use Rattle.board.specs.Gathering.{AreJoint}
use Rattle.board.proofs.reserving.make_reports.Given as goal

abbrev pub invariant-loop-place : goal.invariant-loop-place
invariant-loop-place l = (h : List Occurrence) → AreJoint h l.posts → AreReportsOf (chart_of h) (history_lines l.place h) l.reports.items
