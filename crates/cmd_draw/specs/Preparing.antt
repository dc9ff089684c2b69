-- What a picture or an export is made from, in addition to the chart itself.
use Rattle.std.specs.Prelude.{ℕ, List, [], Option}
use Rattle.chart.specs.declared.instance.EventNo.{EventNo}
use Rattle.chart.specs.Charts.{LineView, chart_lines}
use Rattle.chart.specs.Reports.{ReportView}
use Rattle.chart_layout.specs.declared.row.Row.{Row}
use Rattle.chart_layout.specs.Picking.{IsLayout}
use Rattle.chart_layout.specs.Ends.{AreEnds}
use Rattle.cmd_base.specs.declared.source.Source.{Source}
use Rattle.cmd_base.specs.declared.source.Source.TheVariants.{Run, Written}
use Rattle.schedule.specs.Turns.Turns.{turns_of}
use Rattle.cmd_draw.specs.declared.preparing.Reports.{Reports}
use Rattle.cmd_draw.specs.declared.preparing.Reports.TheVariants.{Replayed, Searched}

-- the reports
abbrev pub reports_in : Reports → List ReportView
reports_in (Replayed reports) = reports.now
reports_in (Searched reports) = reports.items

-- the instance of each event in turn, in the run that the chart comes from; a chart's own text has no run
abbrev pub turns_in : Source → List ℕ
turns_in (Run schedule outcome) = turns_of schedule.now.commands outcome.notes
turns_in (Written named) = []

-- the rows are the layout of the chart with these lines for these turns, and the table has the other ends of its
-- messages
pub record IsPrepared (lines : List LineView) (turns : List ℕ) (rows : List Row) (ends : List (List (Option EventNo)))
    : Type 0 where
  pub layout : IsLayout lines turns rows
  pub messages : AreEnds (chart_lines lines) ends
