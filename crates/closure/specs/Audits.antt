-- The first place where a list of reports isn't that of a chart (this project's profile).
use Rattle.std.specs.Prelude.{◌≡◌, ◌≢◌, ℕ, List, take, slice_get, Option, None, Some, length}
use Rattle.chart.specs.declared.instance.EventNo.{EventNo}
use Rattle.chart.specs.Charts.{LineView, IsPossible, chart_lines}
use Rattle.closure.specs.declared.error.AuditError.{AuditError}
use Rattle.closure.specs.declared.error.AuditError.TheVariants.{Chart, WrongReport}
use Rattle.closure.specs.Faults.{Refuses}
use Rattle.chart.specs.Reports.{ReportView, AreReports}

-- the receive that belongs in a place or, if none does, the receive of the surplus report there
abbrev pub IsNamed : Option ReportView → Option ReportView → EventNo → Type 0
IsNamed (Some right) given r = r ≡ right.receive
IsNamed None (Some given) r = r ≡ given.receive
IsNamed None None r = ⊥

-- the receive names the first place where the given reports aren't the right ones
pub record IsFirstWrong (right given : List ReportView) (r : EventNo) : Type 0 where
  pub place : ℕ
  pub same : take place given ≡ take place right
  pub differs : slice_get given place ≢ slice_get right place
  pub named : IsNamed (slice_get right place) (slice_get given place) r

-- what a refusal states: that the chart is refused, or that it is possible and the reports aren't its own
abbrev pub RefusesReports : List LineView → List ReportView → AuditError → Type 0
RefusesReports lines given (Chart e) = Refuses (chart_lines lines) e
RefusesReports lines given (WrongReport r) = IsPossible (length lines) (chart_lines lines)
    × ((right : List ReportView) × AreReports lines right × IsFirstWrong right given r)
