-- The law that a board's running reports are those that a search finds without reading clocks (this project's profile).
use Rattle.std.specs.Prelude.{ℕ, List, length}
use Rattle.chart.specs.Charts.{IsPossible, chart_lines}
use Rattle.chart.specs.Reports.{AreReports}
use Rattle.board.specs.declared.gathering.Gathered.{Gathered}
use Rattle.board.specs.Gathering.{IsWhole}
use Rattle.board.specs.Views.{PostView}
use Rattle.instances.specs.declared.outcome.Run.{Run}
use Rattle.instances.specs.Whole.{IsGathered}

-- some run has the chart, and the reports are those of its receives: this is what an audit accepts
pub record IsAccepted (it : Gathered) : Type 0 where
  pub possible : IsPossible (length it.chart) (chart_lines it.chart)
  pub reports : AreReports it.chart it.reports.items

-- the result of gathering all posts of a board is accepted
abbrev pub GatheredLaw : Type 0
GatheredLaw = (posts : List PostView) (it : Gathered) → IsWhole posts it → IsAccepted it

-- the result of a board's run is accepted
abbrev pub RunLaw : Type 0
RunLaw = (run : Run) → IsGathered run → IsAccepted run.gathered
