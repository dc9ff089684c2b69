-- What the picture of a whole chart is made from.
use Rattle.std.specs.Prelude.{◌≡◌, ℕ, Bool, List, [], Option}
use Rattle.chart.specs.Reports.{AreReports}
use Rattle.cmd_base.specs.declared.source.Source.{Source}
use Rattle.cmd_base.specs.Texts.{named_of}
use Rattle.cmd_draw.specs.Preparing.{reports_in, turns_in, IsPrepared}
use Rattle.cmd_draw.specs.declared.drawing.Wanted.{Wanted}
use Rattle.cmd_draw.specs.declared.events.Events.{Events}
use Rattle.cmd_draw.specs.declared.windows.Rows.TheVariants.{Between}
use Rattle.cmd_base.specs.Columns.Columns.{only_of}
use Rattle.pictures.specs.Preparing.{SourceView, PartView}
use Rattle.cmd_draw.specs.declared.witness.stage.Stage.{Stage}

-- all events of a line, or all rows
abbrev pub all : Events
all = record { first = 1; last = 4294967295 }

-- all of a chart is wanted, with this title, these columns, and its events' numbers or not
pub record IsWhole (title : List ℕ) (only : Option (List ℕ)) (numbers : Bool) (wanted : Wanted) : Type 0 where
  pub title_is : wanted.title.now ≡ title
  pub only_is : only_of wanted.only ≡ only
  pub events_are : wanted.events ≡ all
  pub rows_are : wanted.rows ≡ Between all
  pub numbers_are : wanted.numbers ≡ numbers

-- the stage is that of the source's chart: its names, lines, layout, ends of messages and reports
pub record IsStageOf (source : Source) (stage : Stage) : Type 0 where
  pub names : stage.names.now ≡ (named_of source).0
  pub lines : stage.closure.now ≡ (named_of source).1
  pub prepared : IsPrepared (named_of source).1 (turns_in source) stage.prepared.layout stage.prepared.ends
  pub races : AreReports (named_of source).1 (reports_in stage.reports)

-- what a picture of the stage's chart with this title is made from
abbrev pub pictured_source : List ℕ → Stage → SourceView
pictured_source title stage = record {
  title = title;
  names = stage.names.now;
  lines = stage.closure.now;
  rows = stage.prepared.layout;
  reports = reports_in stage.reports;
  ends = stage.prepared.ends;
}

-- all of a chart is drawn, in these columns
abbrev pub part_of : List ℕ → Bool → PartView
part_of columns numbers = record {
  instances = columns;
  first = 1;
  last = 4294967295;
  top = 0;
  bottom = 4294967294;
  numbers = numbers;
  notes = [];
}
