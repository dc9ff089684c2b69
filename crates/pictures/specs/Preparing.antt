-- The preparation of a picture (this project's profile).
use Rattle.std.specs.Prelude.{◌≡◌, Option, ℕ, Bool, List, length, filter}
use Rattle.chart.specs.declared.instance.EventNo.{EventNo}
use Rattle.chart.specs.Charts.{LineView}
use Rattle.chart.specs.Reports.{ReportView}
use Rattle.chart_layout.specs.declared.row.Row.{Row}
use Rattle.picture_parts.specs.Columns.Choices.{ChoiceView, places_from, count_from}
use Rattle.picture_parts.specs.Columns.Placing.{PlanView, columns_of, width_of}
use Rattle.chart_layout.specs.declared.margin.MarginNote.{MarginNote}
use Rattle.pictures.specs.Margins.{has_send, with_margin}
use Rattle.pictures.specs.Pictures.{PictureView}

-- the source of a picture: a chart with a title, names, a layout, and the reports of its receives
pub record SourceView : Type 0 where
  -- the text above the picture
  pub title : List ℕ
  -- the names of the instances
  pub names : List (List ℕ)
  pub lines : List LineView
  -- the rows of the layout
  pub rows : List Row
  pub reports : List ReportView
  -- the other ends of the chart's messages
  pub ends : List (List (Option EventNo))

-- the part of a chart that is drawn
pub record PartView : Type 0 where
  -- the instances that have a column, from left to right
  pub instances : List ℕ
  -- the numbers of the first and of the last event that are chosen on each line
  pub first : ℕ
  pub last : ℕ
  -- the numbers of the first and of the last row whose events are chosen, from 0
  pub top : ℕ
  pub bottom : ℕ
  -- whether each event has its number beside it
  pub numbers : Bool
  -- the texts of its margin
  pub notes : List MarginNote

-- the values by which its columns are placed
abbrev pub plan_of : List (List ℕ) → List LineView → List ReportView → List ℕ → Bool → PlanView
plan_of names lines reports instances numbers = record {
  names = names;
  lines = lines;
  reports = reports;
  instances = instances;
  numbers = numbers;
}

-- the picture of a part of a chart
pub record IsPictureOf (source : SourceView) (part : PartView) (v : PictureView) : Type 0 where
  pub title_is : v.title ≡ source.title
  pub names_are : v.names ≡ source.names
  pub lines_are : v.lines ≡ source.lines
  pub reports_are : v.reports ≡ source.reports
  pub numbers_are : v.numbers ≡ part.numbers
  pub choice_is : v.choice ≡ record {
    rows = source.rows;
    ends = source.ends;
    columns = columns_of (plan_of source.names source.lines source.reports part.instances part.numbers);
    first = part.first;
    last = part.last;
    top = part.top;
    bottom = part.bottom;
  }
  pub places_are : v.places ≡ places_from v.choice 0 source.rows
  pub count_is : v.count ≡ count_from v.choice 0 source.rows
  pub sends_are : v.sends ≡ filter (has_send source.lines) source.rows
  pub notes_are : v.notes ≡ part.notes
  pub width_is : v.width ≡ with_margin (width_of (plan_of source.names source.lines source.reports part.instances part.numbers)
      v.choice.columns (length source.title)) part.notes
