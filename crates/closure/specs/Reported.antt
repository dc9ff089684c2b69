-- The reports of a chart's receives so far, while they are made by instance and index (this project's own).
use Rattle.std.specs.Prelude.{◌≡◌, ℕ, suc, ◌+◌, ◌-◌, ◌*◌, ◌<◌, ◌≤◌, List, [], ◌∷◌, ◌++◌, length, take}
use Rattle.chart.specs.Words.{Counts}
use Rattle.chart.specs.declared.instance.EventNo.{EventNo}
use Rattle.chart.specs.declared.line.TheConstants.{MAX_EVENTS}
use Rattle.chart.specs.Charts.{Chart, Place, at, LineView, IsReceiveFrom, chart_lines}
use Rattle.chart.specs.Reports.{ReportView, IsReportIn, AreReportsOf}
use Rattle.closure.specs.declared.partner.Partner.TheVariants.{Sender}
use Rattle.closure.specs.declared.reporting.Receive.{Receive}
use Rattle.closure.specs.Closures.{IsPossibleChart}
use Rattle.closure.specs.Links.{IsPartner}
use Rattle.closure.specs.Searches.{HasKnowledge}

-- the line of p with only its first k events
abbrev pub line_front : Chart → ℕ → ℕ → LineView
line_front c p k = record { instance = p; events = take k (c p) }

-- the reports are those of the receives of the lines before p, and among the first k events of the line at p
pub record HaveReported (lines : List LineView) (p k : ℕ) (reports : List ReportView) : Type 0 where
  pub are : AreReportsOf (chart_lines lines) (take p lines ++ line_front (chart_lines lines) (suc p) k ∷ []) reports

-- a receive that was found: an event of a line, which belongs to the send that the record names
abbrev pub IsFound : List LineView → Receive → Type 0
IsFound lines r = (r.line < length lines) × (r.place < length (chart_lines lines (suc r.line)))
    × IsPartner lines (at (suc r.line) (suc r.place)) (Sender r.sender r.index)

-- the event at r is a receive, and this is its report
abbrev pub IsReportAt : Chart → Place → ReportView → Type 0
IsReportAt c r report = ((q : ℕ) × IsReceiveFrom c q r)
    × (report.receive ≡ record { instance = r.instance; index = r.index }) × IsReportIn c report

-- a reporter: the chart's lines, the line of the next event and its place, both from 0, and the races that it found
-- last
pub record ReporterView : Type 0 where
  pub lines : List LineView
  pub line : ℕ
  pub place : ℕ
  pub earlier : List EventNo

-- a number that falls with each report, for loops over them
abbrev pub reports_left : ReporterView → ℕ
reports_left r = (length r.lines - r.line) * (MAX_EVENTS + 1) - r.place

-- what holds of a reporter: the chart is possible, it has what the sends know, and it is at an event or the end of a
-- line
pub record IsReporting (lines : List LineView) (known : List Counts) (line place : ℕ) : Type 0 where
  pub chart : IsPossibleChart lines
  pub knows : HasKnowledge lines known
  pub line_within : line < length lines
  pub place_within : place ≤ length (chart_lines lines (suc line))
