-- How many race pairs of a chart may be tried (this project's profile).
use Rattle.std.specs.Prelude.{◌≡◌, ℕ, ◌+◌, ◌/◌, ◌≤◌, List, length, Option, None, Some, All}
use Rattle.std.specs.List.{flat_map}
use Rattle.chart.specs.declared.event.Event.{Event}
use Rattle.chart.specs.declared.instance.TheConstants.{MAX_INSTANCES}
use Rattle.chart.specs.declared.line.TheConstants.{MAX_EVENTS}
use Rattle.chart.specs.Charts.{LineView}
use Rattle.chart.specs.Reports.{ReportView, AreReports}
use Rattle.repair.specs.Repairs.{pairs_of}

-- the events of all lines
abbrev pub all_events : List LineView → List Event
all_events lines = flat_map (λ line. line.events) lines

-- no more lines, and of no more events, than a chart can have
pub record AreShort (lines : List LineView) : Type 0 where
  pub count : length lines ≤ MAX_INSTANCES
  pub each : All (λ line. length line.events ≤ MAX_EVENTS) lines

-- So many race pairs as are asked for. Else, since a try takes time for each event and each race pair of the chart, so
-- many that these come to 20,000,000 in all.
abbrev pub IsLimit : List LineView → Option ℕ → ℕ → Type 0
IsLimit lines None limit = (reports : List ReportView) × AreReports lines reports
    × (limit ≡ 20000000 / (length (all_events lines) + length (pairs_of reports) + 1))
IsLimit lines (Some asked) limit = limit ≡ asked
