-- The reports of a chart whose races are chosen from: the chart's, or those that remain with run to completion (this
-- project's profile).
use Rattle.std.specs.Prelude.{◌≡◌, ℕ, Bool, true, false, List, [], ◌∷◌, Option, None, Some}
use Rattle.chart.specs.Charts.{Chart, Place, at, LineView}
use Rattle.chart.specs.Reports.{ReportView, AreReports}
use Rattle.reordering.specs.Completion.Orders.{IsFinishedUpTo, AreCompletedReports}
use Rattle.shown_races.specs.Kept.{later_than}

-- the option has a value
abbrev pub is_there : {X : Type 0} → Option X → Bool
is_there None = false
is_there (Some x) = true

-- the chart's reports, or those that remain with run to completion
abbrev pub AreSelected : Bool → List LineView → List ReportView → Type 0
AreSelected false lines reports = AreReports lines reports
AreSelected true lines reports = AreCompletedReports lines reports

-- How the latter come from the former: the first events of the receive's line are omitted.

abbrev pub IsPassed : Bool → Chart → Place → ℕ → Type 0
IsPassed false c r passed = passed ≡ 0
IsPassed true c r passed = IsFinishedUpTo c r passed

-- a report without the first events of its line
abbrev pub without_first : ℕ → ReportView → ReportView
without_first passed report = record { receive = report.receive; earlier = later_than passed report.earlier }

-- the report that is selected for a report of the chart
abbrev pub IsSelectedOf : Bool → Chart → ReportView → ReportView → Type 0
IsSelectedOf completed c report selected = (passed : ℕ)
    × IsPassed completed c (at report.receive.instance report.receive.index) passed
    × (selected ≡ without_first passed report)

-- the same for several reports
pub data AreSelectedOf (completed : Bool) (c : Chart) : List ReportView → List ReportView → Type 0 where
  none : AreSelectedOf completed c [] []
  more : {report selected : ReportView} {reports others : List ReportView} → IsSelectedOf completed c report selected
      → AreSelectedOf completed c reports others → AreSelectedOf completed c (report ∷ reports) (selected ∷ others)
