-- The values from which a picture is drawn, and the positions of its events (this project's own).
use Rattle.std.specs.Prelude.{ℕ, Bool, List, Option, None, Some, option_map, slice_get, if◌then◌else◌}
use Rattle.chart.specs.declared.event.Event.{Event}
use Rattle.chart.specs.declared.instance.EventNo.{EventNo}
use Rattle.chart.specs.Charts.{LineView, at, chart_event, chart_lines}
use Rattle.chart.specs.Reports.{ReportView}
use Rattle.closure.specs.Faults.{place_of}
use Rattle.chart_layout.specs.Layouts.{row_of}
use Rattle.chart_layout.specs.declared.row.Row.{Row}
use Rattle.chart_layout.specs.declared.margin.MarginNote.{MarginNote}
use Rattle.picture_parts.specs.declared.columns.columns.Column.{Column}
use Rattle.picture_parts.specs.Columns.Choices as choices
use Rattle.picture_parts.specs.Columns.Choices.{ChoiceView, is_shown}
use Rattle.picture_parts.specs.declared.elements.spot.Spot.{Spot}
use Rattle.pictures.specs.declared.spots.Cell.{Cell}
use Rattle.pictures.specs.Spots.{on_line}

-- the values from which a picture is drawn
pub record PictureView : Type 0 where
  -- the text above it
  pub title : List ℕ
  -- the names of the instances
  pub names : List (List ℕ)
  pub lines : List LineView
  pub reports : List ReportView
  -- the events that are drawn, and their columns
  pub choice : ChoiceView
  -- for each row of the layout, the number of rows that are drawn above it
  pub places : List ℕ
  -- the rows in which messages are sent, and the texts of the margin
  pub sends : List Row
  pub notes : List MarginNote
  -- whether each event has its number beside it
  pub numbers : Bool
  -- the width of the picture, in pixels
  pub width : ℕ
  -- the number of rows that are drawn
  pub count : ℕ

-- the column of an instance, if it has one
abbrev pub column_of : PictureView → ℕ → Option Column
column_of v p = choices.column_of v.choice p

-- the row of an event, if it has one
abbrev pub row_at : PictureView → EventNo → Option ℕ
row_at v e = row_of v.choice.rows (place_of e)

-- the number of rows that are drawn above a row, if there is such a row
abbrev pub place_from : PictureView → Option ℕ → Option ℕ
place_from v None = None
place_from v (Some row) = slice_get v.places row

-- the cell of a column and a place, if both are known
abbrev pub cell_from : Option Column → Option ℕ → Option Cell
cell_from None place = None
cell_from (Some column) None = None
cell_from (Some column) (Some place) = Some (record { column = column; place = place })

-- the cell of an event, if the event is drawn
abbrev pub cell_of : PictureView → EventNo → Option Cell
cell_of v e = if is_shown v.choice e then cell_from (column_of v e.instance) (place_from v (row_at v e)) else None

-- the spot at which an event meets its lifeline, if the event is drawn
abbrev pub spot_of : PictureView → EventNo → Option Spot
spot_of v e = option_map on_line (cell_of v e)

-- the other end of an event's message, if it has one
abbrev pub end_of : PictureView → EventNo → Option EventNo
end_of v e = choices.end_of v.choice e

-- the event with this number, if the chart has it
abbrev pub event_of : PictureView → EventNo → Option Event
event_of v e = chart_event (chart_lines v.lines) (at e.instance e.index)
