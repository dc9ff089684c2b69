-- What the checker keeps of a chart besides its lines (this project's own).
use Rattle.std.specs.Prelude.{List, length}
use Rattle.chart.specs.Charts.{LineView, IsPossible, IsChart, chart_lines}
use Rattle.closure.specs.declared.partner.Partner.{Partner}
use Rattle.closure.specs.Rows.{AreRows}
use Rattle.closure.specs.Links.{IsPartner}

-- the lines are a chart, and each event has its partner
pub record AreLinked (lines : List LineView) (partners : List (List Partner)) : Type 0 where
  pub chart : IsChart lines
  pub rows : AreRows (IsPartner lines) (chart_lines lines) (length lines) partners

-- the lines are a possible chart
pub record IsPossibleChart (lines : List LineView) : Type 0 where
  pub chart : IsChart lines
  pub possible : IsPossible (length lines) (chart_lines lines)
