-- The races of another tool's text that are written.
use Rattle.std.specs.Prelude.{◌≡◌, List, ℕ, Some, Option, Result, Ok, Err}
use Rattle.diagram_import.specs.Importing.{OptionsView, imported}
use Rattle.diagram_import.specs.Refusals.{Fails}
use Rattle.cmd_base.specs.Answers.{Exit, refusal, exit_of}
use Rattle.cmd_base.specs.Columns.Answers as columns
use Rattle.cmd_base.specs.Statuses.{code_of}
use Rattle.cmd_import_diagram.specs.Importing.{IsChartOf, AreDiagnosticsOf}
use Rattle.cmd_import_diagram.specs.Refusals.{diagram_refusal_text}
use Rattle.cmd_import_diagram.specs.Diagnostics.{diagnostics_text}
use Rattle.cmd_races.specs.declared.imports.showing.Shown.{Shown}
use Rattle.cmd_races.specs.declared.imports.showing.RaceShowError.{RaceShowError}
use Rattle.cmd_races.specs.declared.imports.showing.RaceShowError.TheVariants.{Diagram, Races}
use Rattle.diagram_join.specs.declared.building.JoinedChart.{JoinedChart}
use Rattle.texts.specs.Outs.{Sink}
use Rattle.cmd_races.specs.Showing.{Shows}
use Rattle.cmd_races.specs.declared.showing.Wanted.{Wanted}
use Rattle.diagram_tool.specs.declared.Tool.{Tool}

module _ {S : Type 0} (sink : S → Sink) where
  -- the races of the bytes' chart were written, and the warnings are about it; or the races are refused. Nothing was
  -- written if the bytes are refused or memory ran out
  abbrev pub ShowsDiagram : S → S → Option Tool → List ℕ → OptionsView → Wanted → Result Shown RaceShowError → Type 0
  ShowsDiagram old new tool bytes options wanted (Ok shown) = (built : JoinedChart) × IsChartOf built tool bytes options
      × AreDiagnosticsOf shown.diagnostics built × Shows sink old new (Ok shown.status) wanted (built.built.names, built.built.chart)
  ShowsDiagram old new tool bytes options wanted (Err (Diagram error)) = Fails error (imported tool bytes options) × (new ≡ old)
  ShowsDiagram old new tool bytes options wanted (Err (Races error)) = (built : JoinedChart)
      × IsChartOf built tool bytes options × Shows sink old new (Err error) wanted (built.built.names, built.built.chart)

-- the answer after races were written
abbrev pub shown_exit : Shown → Exit
shown_exit shown = record {
  status = code_of shown.status;
  diagnostics = Some (diagnostics_text shown.diagnostics.left_out.items shown.diagnostics.overtaking.items shown.diagnostics.renamed.items);
}

-- the answer to a refusal
abbrev pub race_show_error_exit : RaceShowError → Exit
race_show_error_exit (Diagram error) = refusal (diagram_refusal_text error)
race_show_error_exit (Races error) = columns.error_exit error

-- the answer after races were written or refused
abbrev pub races_exit : Result Shown RaceShowError → Exit
races_exit = exit_of shown_exit race_show_error_exit
