-- The input of another tool's text (this project's own).
use Rattle.std.specs.Prelude.{ℕ, ◌-◌, List, Option, None, Some, slice_get, unwrap_or}
use Rattle.chart.specs.declared.event.Event.{Event}
use Rattle.chart.specs.declared.instance.EventNo.{EventNo}
use Rattle.chart.specs.Charts.{LineView, at, chart_event, chart_lines}
use Rattle.chart.specs.Reports.{ReportView}
use Rattle.closure.specs.Faults.{place_of}
use Rattle.chart_layout.specs.declared.row.Row.{Row}
use Rattle.chart_layout.specs.Ends.{end_of as other_end}
use Rattle.chart_layout.specs.Layouts.{row_of}
use Rattle.diagram_tool.specs.declared.Tool.{Tool}

-- the input of an export
pub record ExportView : Type 0 where
  pub tool : Tool
  -- the names of the instances
  pub names : List (List ℕ)
  pub lines : List LineView
  pub reports : List ReportView
  -- the rows of the layout, from the top
  pub rows : List Row
  -- for each event of each line, the other end of its message, if it has one
  pub ends : List (List (Option EventNo))
  -- for each row, the place of its receive's report among the reports, if it has races
  pub notes : List (Option ℕ)
  -- for each row, the number of the tool's rows above it; a note has a row of its own
  pub starts : List ℕ

-- the event of this number, if the chart has it
abbrev pub event_of : ExportView → EventNo → Option Event
event_of v e = chart_event (chart_lines v.lines) (at e.instance e.index)

-- the other end of an event's message, if it has one
abbrev pub end_of : ExportView → EventNo → Option EventNo
end_of v e = other_end v.ends e

-- the value for a row, from a list by rows
abbrev pub in_row : {X : Type 0} → X → List X → Option ℕ → X
in_row other values None = other
in_row other values (Some row) = unwrap_or (slice_get values row) other

-- the number of the tool's rows above the row of an event
abbrev pub start_of : ExportView → EventNo → ℕ
start_of v e = in_row 0 v.starts (row_of v.rows (place_of e))

-- how many of the tool's rows a receive is below its send
abbrev pub skip : ExportView → EventNo → EventNo → ℕ
skip v send receive = start_of v receive - start_of v send

-- the report at this place, if there is one
abbrev pub report_at : List ReportView → Option ℕ → Option ReportView
report_at reports None = None
report_at reports (Some place) = slice_get reports place

-- the report of the races in the row of the event, if it has races
abbrev pub note_of : ExportView → EventNo → Option ReportView
note_of v e = report_at v.reports (in_row None v.notes (row_of v.rows (place_of e)))
