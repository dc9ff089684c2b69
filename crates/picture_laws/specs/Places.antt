-- Where the events of a chart are in its picture (this project's profile, after the graphical form of ITU-T Z.120).
use Rattle.std.specs.Prelude.{◌≡◌, ℕ, ◌+◌, ◌*◌, true, List, ◌++◌, take, Some}
use Rattle.chart.specs.declared.instance.EventNo.{EventNo}
use Rattle.chart.specs.Charts.{chart_lines}
use Rattle.closure.specs.Faults.{place_of}
use Rattle.chart_layout.specs.Ends.{AreEnds}
use Rattle.chart_layout.specs.Layouts.{IsDrawing, row_of}
use Rattle.picture_parts.specs.declared.columns.columns.Column.{Column}
use Rattle.picture_parts.specs.declared.elements.spot.Spot.{Spot}
use Rattle.picture_parts.specs.Columns.Choices.{is_in_picture, count_from}
use Rattle.pictures.specs.Pictures.{PictureView, column_of}
use Rattle.pictures.specs.Preparing.{SourceView, PartView, IsPictureOf}

-- the picture shows this part of a chart, whose rows draw the chart, and whose table has the other ends of its messages
pub record IsOfChart (source : SourceView) (part : PartView) (v : PictureView) : Type 0 where
  pub picture : IsPictureOf source part v
  pub drawing : IsDrawing source.lines source.rows
  pub ends : AreEnds (chart_lines source.lines) source.ends

-- the event is drawn: its instance has a column, and the event is chosen, or the other end of its message is
abbrev pub IsDrawn : PictureView → EventNo → Type 0
IsDrawn v e = is_in_picture v.choice e ≡ true

-- the place of an event: on the line of its instance's column, at the height of its row. The first row is 84 pixels below
-- the upper edge, and each drawn row is 24 pixels below the one above it
pub record IsPlaceOf (v : PictureView) (e : EventNo) (a : Spot) : Type 0 where
  pub column : Column
  pub row : ℕ
  pub of_instance : column_of v e.instance ≡ Some column
  pub of_event : row_of v.choice.rows (place_of e) ≡ Some row
  pub x_is : a.x ≡ column.x
  pub y_is : a.y ≡ count_from v.choice 0 (take row v.choice.rows) * 24 + 84

-- the text has this part
pub record Has (text words : List ℕ) : Type 0 where
  pub before : List ℕ
  pub after : List ℕ
  pub is : text ≡ before ++ (words ++ after)
