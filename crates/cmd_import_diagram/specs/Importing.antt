-- The results of an import.
use Rattle.std.specs.Prelude.{◌≡◌, ℕ, List, codes, length, Option, None, Some, Result, Ok, Err}
use Rattle.chart.specs.Charts.{chart_lines, IsPossible}
use Rattle.diagram_import.specs.Importing.{OptionsView, imported}
use Rattle.diagram_import.specs.Refusals.{Fails}
use Rattle.diagram_import.specs.declared.error.ImportError.{ImportError}
use Rattle.cmd_base.specs.Answers.{Exit, refusal, exit_of}
use Rattle.cmd_base.specs.Refusals.{labelled_text}
use Rattle.diagram_join.specs.Building.{joined_chart_view}
use Rattle.diagram_join.specs.declared.building.JoinedChart.{JoinedChart}
use Rattle.msc_text.specs.ChartText.{chart_text}
use Rattle.texts.specs.Outs.{Sink}
use Rattle.texts.specs.Writing.{Puts, Breaks}
use Rattle.diagram_tool.specs.declared.Tool.{Tool}
use Rattle.cmd_import_diagram.specs.Order.{in_order}
use Rattle.cmd_import_diagram.specs.Refusals.{diagram_refusal_text}
use Rattle.cmd_import_diagram.specs.Diagnostics.{diagnostics_text}
use Rattle.cmd_import_diagram.specs.declared.importing.ImportedDiagram.{ImportedDiagram}
use Rattle.cmd_import_diagram.specs.declared.importing.Diagnostics.{Diagnostics}
use Rattle.cmd_import_diagram.specs.declared.importing.ImportWriteError.{ImportWriteError}
use Rattle.cmd_import_diagram.specs.declared.importing.ImportWriteError.TheVariants.{Diagram, Write}

-- the chart of the bytes, which is possible
abbrev pub IsChartOf : JoinedChart → Option Tool → List ℕ → OptionsView → Type 0
IsChartOf built tool bytes options =
    (imported tool bytes options ≡ Ok (joined_chart_view built)) × IsPossible (length built.built.chart) (chart_lines built.built.chart)

-- the warnings are those about the chart: the skipped constructs, in order, the overtaking messages, and the names
abbrev pub AreDiagnosticsOf : Diagnostics → JoinedChart → Type 0
AreDiagnosticsOf diagnostics built = (diagnostics.left_out.items ≡ in_order built.built.left_out.items) × (diagnostics.overtaking ≡ built.overtaking) × (diagnostics.renamed ≡ built.built.renamed)

-- the names and the chart are those of the bytes, and the warnings are those about the chart
abbrev pub IsImportedDiagram : ImportedDiagram → Option Tool → List ℕ → OptionsView → Type 0
IsImportedDiagram diagram tool bytes options = (built : JoinedChart) × IsChartOf built tool bytes options
    × AreDiagnosticsOf diagram.diagnostics built × (diagram.names ≡ built.built.names) × (diagram.chart ≡ built.built.chart)

-- the result is the chart of the bytes, or the bytes are refused, or memory ran out
abbrev pub ReadsDiagram : Result ImportedDiagram ImportError → Option Tool → List ℕ → OptionsView → Type 0
ReadsDiagram (Ok diagram) tool bytes options = IsImportedDiagram diagram tool bytes options
ReadsDiagram (Err error) tool bytes options = Fails error (imported tool bytes options)

module _ {S : Type 0} (sink : S → Sink) where
  -- the text of the bytes' chart was written; or a beginning of it, if a put failed; or nothing, if the bytes are
  -- refused or memory ran out
  abbrev pub Imports : S → S → Result Diagnostics ImportWriteError → Option Tool → List ℕ → OptionsView → Type 0
  Imports old new (Ok diagnostics) tool bytes options = (built : JoinedChart) × IsChartOf built tool bytes options
      × AreDiagnosticsOf diagnostics built × Puts sink old new (chart_text built.built.names built.built.chart)
  Imports old new (Err (Diagram error)) tool bytes options = Fails error (imported tool bytes options) × (new ≡ old)
  Imports old new (Err Write) tool bytes options = (built : JoinedChart) × IsChartOf built tool bytes options
      × Breaks sink old new (chart_text built.built.names built.built.chart)

-- the exit after a chart was written, with its warnings
abbrev pub diagnostics_exit : Diagnostics → Exit
diagnostics_exit diagnostics = record { status = 0; diagnostics = Some (diagnostics_text diagnostics.left_out.items diagnostics.overtaking.items diagnostics.renamed.items) }

-- the exit after a refusal
abbrev pub import_write_error_exit : ImportWriteError → Exit
import_write_error_exit Write = refusal (labelled_text (codes "F24 Write") None)
import_write_error_exit (Diagram error) = refusal (diagram_refusal_text error)

-- the exit after an import
abbrev pub imported_exit : Result Diagnostics ImportWriteError → Exit
imported_exit = exit_of diagnostics_exit import_write_error_exit
