-- The race pairs of a chart that count: those that are shown, or only those of them that were luck (this project's
-- profile).
use Rattle.std.specs.Prelude.{◌≡◌, ◌≤◌, Bool, List, [], length, map, filter, All, if◌then◌else◌}
use Rattle.std.specs.List.{flat_map, list_any}
use Rattle.chart.specs.declared.instance.EventNo.{EventNo}
use Rattle.chart.specs.Charts.{LineView, chart_lines}
use Rattle.chart.specs.Reports.{ReportView}
use Rattle.repair.specs.Marks.{is_at}
use Rattle.shown_races.specs.Shown.{AreShown}
use Rattle.shown_races.specs.declared.showing.Showing.{Showing}

-- which races are shown, whether only those count that were luck, and which were luck: receives and earlier events
pub record CountedView : Type 0 where
  pub showing : Showing
  pub only_luck : Bool
  pub luck : List ReportView

-- the earlier events that a report has, if it is this receive's
abbrev pub luck_of : EventNo → ReportView → List EventNo
luck_of receive report = if is_at receive.instance receive.index report.receive then report.earlier else []

-- the events that were earlier than the receive by luck
abbrev pub lucky_events : List ReportView → EventNo → List EventNo
lucky_events luck receive = flat_map (luck_of receive) luck

-- the pair of this receive and this earlier event was luck
abbrev pub was_luck : List ReportView → EventNo → EventNo → Bool
was_luck luck receive e = list_any (is_at e.instance e.index) (lucky_events luck receive)

-- a report with only the races that were luck
abbrev pub lucky_report : List ReportView → ReportView → ReportView
lucky_report luck report = record {
  receive = report.receive;
  earlier = filter (was_luck luck report.receive) report.earlier;
}

-- of reports with the races that are shown, those with the races that count
abbrev pub counted_of : CountedView → List ReportView → List ReportView
counted_of counted shown = if counted.only_luck then map (lucky_report counted.luck) shown else shown

-- these are the reports of the chart with these lines, with only the races that count
abbrev pub AreCounted : CountedView → List LineView → List ReportView → Type 0
AreCounted counted lines reports = (shown : List ReportView) × AreShown counted.showing lines shown
    × (reports ≡ counted_of counted shown)

-- the event's number is at most that of its line's last event
abbrev pub IsWithin : List LineView → EventNo → Type 0
IsWithin lines e = e.index ≤ length (chart_lines lines e.instance)

-- so are those of a report's events
pub record IsPlaced (lines : List LineView) (report : ReportView) : Type 0 where
  pub receive : IsWithin lines report.receive
  pub earlier : All (IsWithin lines) report.earlier

-- so are those of all races that were luck
abbrev pub ArePlaced : CountedView → List LineView → Type 0
ArePlaced counted lines = All (IsPlaced lines) counted.luck
