-- Reports as contracts see them, a receive with its races (after Alur, Holzmann and Peled 1996), and the reports of a
-- chart. Reports one by one are this project's profile.
use Rattle.std.specs.Prelude.{◌≡◌, ℕ, ◌+◌, Bool, List, [], ◌∷◌, length, map, All, nat_lt}
use Rattle.std.specs.List.{flat_map, list_any}
use Rattle.chart.specs.declared.event.Event.{Event}
use Rattle.chart.specs.declared.event.Event.TheVariants.{Send, Receive}
use Rattle.chart.specs.declared.instance.EventNo.{EventNo}
use Rattle.chart.specs.Charts.{Chart, at, LineView, chart_lines}
use Rattle.chart.specs.Order.{IsReport}

-- a receive, and earlier events of its line
pub record ReportView : Type 0 where
  pub receive : EventNo
  pub earlier : List EventNo

-- one of these reports has a race
abbrev pub has_races : List ReportView → Bool
has_races reports = list_any (λ report. nat_lt 0 (length report.earlier)) reports

-- the receives among these events of p's line, the first of which is the i-th
abbrev pub receives_from : ℕ → ℕ → List Event → List EventNo
receives_from p i [] = []
receives_from p i (Send to name ∷ line) = receives_from p (i + 1) line
receives_from p i (Receive from name region ∷ line) = record { instance = p; index = i } ∷ receives_from p (i + 1) line

-- the receives of a line, in order
abbrev pub receives_of : LineView → List EventNo
receives_of l = receives_from l.instance 1 l.events

-- the report is the chart's report of its receive, as events of the receive's line
pub record IsReportIn (c : Chart) (report : ReportView) : Type 0 where
  pub exact : IsReport c (at report.receive.instance report.receive.index) (map (λ race. race.index) report.earlier)
  pub line : All (λ race. race.instance ≡ report.receive.instance) report.earlier

-- the chart's report of each receive of these lines, in their order
pub record AreReportsOf (c : Chart) (lines : List LineView) (reports : List ReportView) : Type 0 where
  pub receives : map (λ r. r.receive) reports ≡ flat_map receives_of lines
  pub each : All (IsReportIn c) reports

-- the report of each receive of the chart, by instance and index
pub record AreReports (lines : List LineView) (reports : List ReportView) : Type 0 where
  pub are : AreReportsOf (chart_lines lines) lines reports
