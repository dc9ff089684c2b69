-- The page of another tool's text.
use Rattle.std.specs.Prelude.{◌≡◌, List, ℕ, Option, None, Some, Result, Ok, Err}
use Rattle.diagram_import.specs.Importing.{OptionsView, imported}
use Rattle.diagram_import.specs.Refusals.{Fails}
use Rattle.cmd_base.specs.Answers.{Exit, refusal, exit_of, program_exit}
use Rattle.cmd_import_diagram.specs.Importing.{IsChartOf, AreDiagnosticsOf, diagnostics_exit}
use Rattle.cmd_import_diagram.specs.Refusals.{diagram_refusal_text}
use Rattle.cmd_import_diagram.specs.declared.importing.Diagnostics.{Diagnostics}
use Rattle.cmd_page.specs.declared.imports.diagram_pages.PageError.{PageError}
use Rattle.cmd_page.specs.declared.imports.diagram_pages.PageError.TheVariants.{Diagram, Page}
use Rattle.cmd_draw.specs.Imports.Turns.{turns_of_text}
use Rattle.diagram_join.specs.declared.building.JoinedChart.{JoinedChart}
use Rattle.msc_text.specs.ChartText.{chart_text}
use Rattle.texts.specs.Outs.{Sink}
use Rattle.cmd_page.specs.Showing.{HeadingView, ShowsText}
use Rattle.diagram_tool.specs.declared.Tool.{Tool}

-- the title, and the turns of the diagram's rows
abbrev pub heading_of : Option Tool → List ℕ → OptionsView → List ℕ → HeadingView
heading_of tool bytes options title = record { title = title; turns = Some (turns_of_text tool bytes options); races = None }

module _ {S : Type 0} (sink : S → Sink) where
  -- The output of `mscview page` for the text of the bytes' chart was written, with the picture in the order of the
  -- diagram's rows. The warnings are about this chart. Or the page is refused. Nothing was written if the bytes are
  -- refused or memory ran out.
  abbrev pub IsShown : S → S → Option Tool → List ℕ → OptionsView → List ℕ → Result Diagnostics PageError → Type 0
  IsShown old new tool bytes options title (Ok diagnostics) = (built : JoinedChart) × IsChartOf built tool bytes options
      × AreDiagnosticsOf diagnostics built × ShowsText sink old new (heading_of tool bytes options title) (chart_text built.built.names built.built.chart) (Ok tt)
  IsShown old new tool bytes options title (Err (Diagram error)) = Fails error (imported tool bytes options) × (new ≡ old)
  IsShown old new tool bytes options title (Err (Page error)) = (built : JoinedChart) × IsChartOf built tool bytes options
      × ShowsText sink old new (heading_of tool bytes options title) (chart_text built.built.names built.built.chart) (Err error)

  -- The same. It stays folded, so that the goals above it are short.
  unfoldable pub ShowsDiagram : S → S → Option Tool → List ℕ → OptionsView → List ℕ → Result Diagnostics PageError → Type 0
  ShowsDiagram old new tool bytes options title done = IsShown old new tool bytes options title done

-- the answer to a refusal
abbrev pub page_error_exit : PageError → Exit
page_error_exit (Diagram error) = refusal (diagram_refusal_text error)
page_error_exit (Page error) = program_exit error

-- the answer after a page was written or refused
abbrev pub page_exit : Result Diagnostics PageError → Exit
page_exit = exit_of diagnostics_exit page_error_exit
