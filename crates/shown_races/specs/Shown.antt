-- The reports of a chart with only the races that are shown (this project's profile; the races are those of Alur,
-- Holzmann and Peled 1996 in it).
use Rattle.std.specs.Prelude.{◌≡◌, Bool, List, map}
use Rattle.chart.specs.Charts.{LineView, chart_lines}
use Rattle.chart.specs.Reports.{ReportView}
use Rattle.shown_races.specs.Kept.{kept_events}
use Rattle.shown_races.specs.Selected.{AreSelected}
use Rattle.shown_races.specs.declared.showing.Showing.{Showing}

-- a report with all of its earlier events, or only with receives
abbrev pub kept_report : Bool → List LineView → ReportView → ReportView
kept_report only lines report = record {
  receive = report.receive;
  earlier = kept_events (chart_lines lines report.receive.instance) only report.earlier;
}

-- these are the reports of the chart with these lines, with only the races that are shown
abbrev pub AreShown : Showing → List LineView → List ReportView → Type 0
AreShown showing lines shown = (reports : List ReportView) × AreSelected showing.run_to_completion lines reports
    × (shown ≡ map (kept_report showing.receives lines) reports)
