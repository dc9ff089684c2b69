-- The text of an export of a file.
use Rattle.std.specs.Prelude.{◌≡◌, ℕ, Bool, false, ◌||◌, ◌++◌, List, [], length, nat_lt, codes, Option, None, Some, Result, Ok, Err, if◌then◌else◌}
use Rattle.std.specs.List.{list_any}
use Rattle.chart.specs.declared.instance.EventNo.{EventNo}
use Rattle.chart.specs.Charts.{LineView, chart_lines, IsPossible}
use Rattle.chart.specs.Events.{greatest_region}
use Rattle.chart.specs.Reports.{ReportView, AreReports}
use Rattle.diagram_tool.specs.declared.Tool.{Tool}
use Rattle.diagram_tool.specs.declared.Tool.TheVariants.{PlantUml}
use Rattle.diagram_export.specs.Clocks.{log_of}
use Rattle.diagram_export.specs.Exports.{ExportView}
use Rattle.diagram_export.specs.ExportText.{export_text}
use Rattle.diagram_export.specs.LogText.{log_text}
use Rattle.diagram_export.specs.Preparing.{IsExportOf}
use Rattle.diagram_export.specs.Sayings.{has_parted}
use Rattle.chart_layout.specs.declared.row.Row.{Row}
use Rattle.texts.specs.Outs.{Sink}
use Rattle.texts.specs.Writing.{Puts, Breaks}
use Rattle.cmd_base.specs.declared.error.ProgramError.TheVariants as errors
use Rattle.cmd_base.specs.Answers.{Exit, exit_of}
use Rattle.cmd_base.specs.Texts.{OfFile, named_of}
use Rattle.cmd_base.specs.Contents.{Named, IsRefused}
use Rattle.cmd_base.specs.declared.columns.error.ColumnError.{ColumnError}
use Rattle.cmd_base.specs.declared.columns.error.ColumnError.TheVariants.{Program, NoSuchName}
use Rattle.cmd_draw.specs.declared.exporting.Diagnostics.{Diagnostics}
use Rattle.cmd_draw.specs.declared.target.Target.{Target}
use Rattle.cmd_draw.specs.declared.target.Target.TheVariants.{Diagram, ShiViz}
use Rattle.cmd_base.specs.Columns.Answers.{error_exit}
use Rattle.cmd_draw.specs.Preparing.{turns_in, IsPrepared}

-- the tool that an export is made for; a log is the same for each tool
abbrev pub tool_of : Target → Tool
tool_of (Diagram tool) = tool
tool_of ShiViz = PlantUml

-- the text of an export
abbrev pub text_of : Target → ExportView → List ℕ
text_of (Diagram tool) v = export_text v
text_of ShiViz v = log_text v (log_of v)

-- a line has a coregion
abbrev pub has_region : LineView → Bool
has_region line = nat_lt 0 (greatest_region line.events)

-- a message whose ends are two notes; a log has none
abbrev pub has_parted_in : Target → ExportView → Bool
has_parted_in (Diagram tool) v = has_parted v
has_parted_in ShiViz v = false

-- the warnings beside the text
abbrev pub diagnostics_of : Target → ExportView → Diagnostics
diagnostics_of target v = record { parted = has_parted_in target v; regions = list_any has_region v.lines }

-- the lines of these warnings
unfoldable pub parted_text : Bool → List ℕ
parted_text parted = if parted then codes "a message that isn't level is two notes\n" else []

unfoldable pub regions_text : Bool → List ℕ
regions_text regions = if regions then codes "coregions are left out\n" else []

unfoldable pub both_text : Diagnostics → List ℕ
both_text diagnostics = parted_text diagnostics.parted ++ regions_text diagnostics.regions

abbrev pub diagnostics_text : Diagnostics → Option (List ℕ)
diagnostics_text diagnostics = if diagnostics.parted || diagnostics.regions then Some (both_text diagnostics) else None

-- the chart is possible, and the export is made from it
pub record IsExported (target : Target) (turns : List ℕ) (named : Named) (v : ExportView) : Type 0 where
  pub rows : List Row
  pub ends : List (List (Option EventNo))
  pub reports : List ReportView
  pub possible : IsPossible (length named.1) (chart_lines named.1)
  pub prepared : IsPrepared named.1 turns rows ends
  pub races : AreReports named.1 reports
  pub is : IsExportOf (tool_of target) named.0 named.1 rows reports ends v

module _ {S : Type 0} (sink : S → Sink) where
  -- a text was written; or a beginning of it, if a put failed; or nothing, if memory ran out
  abbrev pub Writes : S → S → Result (Unit {0}) ColumnError → List ℕ → Type 0
  Writes old new (Ok done) text = Puts sink old new text
  Writes old new (Err NoSuchName) text = ⊥
  Writes old new (Err (Program errors.Memory)) text = new ≡ old
  Writes old new (Err (Program errors.Write)) text = Breaks sink old new text
  Writes old new (Err (Program error)) text = ⊥

  -- the text was written; or a beginning of it, if a put failed; or nothing, if the chart isn't possible or memory ran
  -- out
  abbrev pub Exports : S → S → Result Diagnostics ColumnError → Target → List ℕ → Named → Type 0
  Exports old new (Ok diagnostics) target turns named = (v : ExportView) × IsExported target turns named v × (diagnostics ≡ diagnostics_of target v)
      × Puts sink old new (text_of target v)
  Exports old new (Err NoSuchName) target turns named = ⊥
  Exports old new (Err (Program errors.Memory)) target turns named = new ≡ old
  Exports old new (Err (Program errors.Write)) target turns named = (v : ExportView) × IsExported target turns named v
      × Breaks sink old new (text_of target v)
  Exports old new (Err (Program error)) target turns named = IsRefused error named × (new ≡ old)

  -- the same for the chart in a file; or nothing was written, if the bytes have a fault
  abbrev pub ExportsText : S → S → Target → List ℕ → Result Diagnostics ColumnError → Type 0
  ExportsText old new target bytes =
      OfFile Program (λ source done. Exports old new done target (turns_in source) (named_of source)) old new bytes

-- the status and the lines for an export that was written
abbrev pub diagnostics_exit : Diagnostics → Exit
diagnostics_exit diagnostics = record { status = 0; diagnostics = diagnostics_text diagnostics }

abbrev pub export_exit : Result Diagnostics ColumnError → Exit
export_exit = exit_of diagnostics_exit error_exit
