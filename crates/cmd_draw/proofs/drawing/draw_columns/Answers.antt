use Rattle.std.proofs.Common.{◌≡◌, ℕ, List, length, refl, subst}
use Rattle.std.proofs.lemmas.Result.{err_from_is_err_and}
use Rattle.std.specs.Prelude.{Option}
use Rattle.chart.specs.declared.instance.EventNo.{EventNo}
use Rattle.chart.specs.Charts.{LineView, chart_lines, IsPossible}
use Rattle.chart.specs.Reports.{ReportView, AreReports}
use Rattle.cmd_base.specs.Contents.{Named}
use Rattle.chart_layout.specs.declared.row.Row.{Row}
use Rattle.chart_layout.specs.declared.margin.MarginNote.{MarginNote}
use Rattle.pictures.specs.Pictures.{PictureView}
use Rattle.pictures.specs.Preparing.{IsPictureOf}
use Rattle.cmd_draw.specs.declared.drawing.Wanted.{Wanted}
use Rattle.cmd_draw.specs.declared.windows.Window.{Window}
use Rattle.cmd_base.specs.Columns.Columns.{AreColumns, only_of}
use Rattle.cmd_draw.specs.Drawing.{IsWanted}
use Rattle.cmd_draw.specs.Preparing.{IsPrepared}
use Rattle.cmd_draw.specs.Windows.{IsWindow, HasNoWindow}
use Rattle.cmd_draw.proofs.drawing.draw_columns.Goals as goal

-- the picture of a window of a possible chart
is_wanted : (wanted : Wanted) (turns : List ℕ) (notes : List MarginNote) (names : List (List ℕ)) (lines lines' : List LineView) (columns : List ℕ) (rows : List Row) (ends : List (List (Option EventNo))) (reports : List ReportView) (window : Window) (picture : PictureView)
    → AreColumns names (only_of wanted.only) columns → IsPossible (length lines) (chart_lines lines) → IsPrepared lines turns rows ends → AreReports lines reports
    → lines' ≡ lines → IsWindow (names, lines') rows wanted.rows window
    → IsPictureOf (record {
      title = wanted.title.now;
      names = names;
      lines = lines;
      rows = rows;
      reports = reports;
      ends = ends;
    }) (record {
      instances = columns;
      first = wanted.events.first;
      last = wanted.events.last;
      top = window.top;
      bottom = window.bottom;
      numbers = wanted.numbers;
      notes = notes;
    }) picture → IsWanted wanted turns notes (names, lines) picture
is_wanted wanted turns notes names lines lines' columns rows ends reports window picture are possible prepared races same chosen is_picture = record {
  columns = columns;
  rows = rows;
  ends = ends;
  reports = reports;
  window = window;
  named_so = are;
  possible = possible;
  prepared = prepared;
  races = races;
  chosen = subst (λ (ls : List LineView). IsWindow (names, ls) rows wanted.rows window) same chosen;
  is_picture = is_picture;
}

pub returns-in_err-window : goal.returns-in_err-window
returns-in_err-window g c =
    let p = err_from_is_err_and c.from_residual.result c.from_residual.ensures.1 in
    let missing = c.in_err-window.field-0.0 in
    rw (p.1, p.2) (
      c.args.columns.now,
      c.requires.columns,
      c.requires.possible,
      subst (λ (ls : List LineView). HasNoWindow (c.args.subject.now.names.now, ls) c.args.wanted.now.rows missing) c.lines.ensures c.in_err-window.ensures,
      refl,
    )

pub returns-in-Ok-write_picture : goal.returns-in-Ok-write_picture
returns-in-Ok-write_picture g c = (
  c.in-Ok-of.picture,
  is_wanted c.args.wanted.now c.args.subject.now.turns.now c.args.subject.now.notes.now c.args.subject.now.names.now c.args.subject.now.closure.now c.lines.result.now c.args.columns.now c.in-Ok.prepared.layout c.in-Ok.prepared.ends c.args.subject.now.reports.now c.in_ok-window.window c.in-Ok-of.picture
      c.requires.columns c.requires.possible c.in-Ok.ensures c.requires.reports c.lines.ensures c.in_ok-window.ensures c.in-Ok-of.ensures,
  c.in-Ok-write_picture.ensures,
)

pub returns : goal.returns
returns g c = (
  c.in-Ok-of.picture,
  is_wanted c.args.wanted.now c.args.subject.now.turns.now c.args.subject.now.notes.now c.args.subject.now.names.now c.args.subject.now.closure.now c.lines.result.now c.args.columns.now c.in-Ok.prepared.layout c.in-Ok.prepared.ends c.args.subject.now.reports.now c.in_ok-window.window c.in-Ok-of.picture
      c.requires.columns c.requires.possible c.in-Ok.ensures c.requires.reports c.lines.ensures c.in_ok-window.ensures c.in-Ok-of.ensures,
  c.in-Err-write_picture.ensures,
)
