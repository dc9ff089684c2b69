-- The picture that is drawn of a file.
use Rattle.std.specs.Prelude.{◌≡◌, ℕ, List, [], length, Option, Result, Ok, Err}
use Rattle.chart.specs.declared.instance.EventNo.{EventNo}
use Rattle.chart.specs.Charts.{chart_lines, IsPossible}
use Rattle.chart.specs.Reports.{ReportView, AreReports}
use Rattle.chart_layout.specs.declared.row.Row.{Row}
use Rattle.chart_layout.specs.declared.margin.MarginNote.{MarginNote}
use Rattle.texts.specs.Outs.{Sink}
use Rattle.texts.specs.Writing.{Puts, Breaks}
use Rattle.pictures.specs.Pictures.{PictureView}
use Rattle.pictures.specs.PictureText.{picture_text}
use Rattle.pictures.specs.Preparing.{IsPictureOf}
use Rattle.cmd_base.specs.declared.error.ProgramError.TheVariants as errors
use Rattle.cmd_base.specs.NotDone.{IsNoted}
use Rattle.cmd_base.specs.Texts.{OfFile, named_of}
use Rattle.cmd_base.specs.declared.not_done.NotDone.{NotDone}
use Rattle.cmd_base.specs.Contents.{Named, IsRefused}
use Rattle.cmd_draw.specs.declared.drawing.Wanted.{Wanted}
use Rattle.cmd_draw.specs.declared.error.DrawError.{DrawError}
use Rattle.cmd_draw.specs.declared.error.DrawError.TheVariants.{Columns, NoSuchEvent}
use Rattle.cmd_base.specs.declared.columns.error.ColumnError.TheVariants.{Program, NoSuchName}
use Rattle.cmd_draw.specs.declared.windows.Window.{Window}
use Rattle.cmd_base.specs.Columns.Columns.{AreColumns, only_of}
use Rattle.cmd_draw.specs.Windows.{IsWindow, HasNoWindow}
use Rattle.cmd_draw.specs.Preparing.{turns_in, IsPrepared}

-- the chart is possible, and the picture is of its wanted part, with these notes in its margin
pub record IsWanted (wanted : Wanted) (turns : List ℕ) (notes : List MarginNote) (named : Named) (picture : PictureView) : Type 0 where
  pub columns : List ℕ
  pub rows : List Row
  pub ends : List (List (Option EventNo))
  pub reports : List ReportView
  pub window : Window
  pub named_so : AreColumns named.0 (only_of wanted.only) columns
  pub possible : IsPossible (length named.1) (chart_lines named.1)
  pub prepared : IsPrepared named.1 turns rows ends
  pub races : AreReports named.1 reports
  pub chosen : IsWindow named rows wanted.rows window
  pub is_picture : IsPictureOf (record {
    title = wanted.title.now;
    names = named.0;
    lines = named.1;
    rows = rows;
    reports = reports;
    ends = ends;
  }) (record {
    instances = columns;
    first = wanted.events.first;
    last = wanted.events.last;
    top = window.top;
    bottom = window.bottom;
    numbers = wanted.numbers;
    notes = notes;
  }) picture

module _ {S : Type 0} (sink : S → Sink) where
  -- the picture was written; or a beginning of it, if a put failed; or nothing. Nothing is written if the chart lacks
  -- the columns, isn't possible, lacks the event that the rows are around, or if memory ran out
  abbrev pub Draws : S → S → Result (Unit {0}) DrawError → Wanted → List ℕ → List MarginNote → Named → Type 0
  Draws old new (Ok done) wanted turns notes named = (picture : PictureView) × IsWanted wanted turns notes named picture
      × Puts sink old new (picture_text picture)
  Draws old new (Err (Columns NoSuchName)) wanted turns notes named =
      ((columns : List ℕ) → AreColumns named.0 (only_of wanted.only) columns → ⊥) × (new ≡ old)
  Draws old new (Err (Columns (Program errors.Memory))) wanted turns notes named = new ≡ old
  Draws old new (Err (Columns (Program errors.Write))) wanted turns notes named = (picture : PictureView)
      × IsWanted wanted turns notes named picture × Breaks sink old new (picture_text picture)
  Draws old new (Err (Columns (Program error))) wanted turns notes named = (columns : List ℕ)
      × AreColumns named.0 (only_of wanted.only) columns × IsRefused error named × (new ≡ old)
  Draws old new (Err (NoSuchEvent missing)) wanted turns notes named = (columns : List ℕ)
      × AreColumns named.0 (only_of wanted.only) columns × IsPossible (length named.1) (chart_lines named.1)
      × HasNoWindow named wanted.rows missing × (new ≡ old)

  -- the same for the chart in a file; or nothing was written, if the bytes have a fault
  abbrev pub DrawsText : S → S → Wanted → List ℕ → Result (Option NotDone) DrawError → Type 0
  DrawsText old new wanted bytes = OfFile (λ error. Columns (Program error))
      (IsNoted (λ them. tt) (λ them. them) (λ source done. Draws old new done wanted (turns_in source) [] (named_of source))) old new bytes
