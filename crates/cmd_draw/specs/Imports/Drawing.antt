-- The picture that is drawn of another tool's text.
use Rattle.std.specs.Prelude.{◌≡◌, ℕ, List, map, Option, Result, Ok, Err}
use Rattle.diagram_import.specs.Importing.{OptionsView, imported}
use Rattle.diagram_import.specs.Refusals.{Fails}
use Rattle.cmd_base.specs.Answers.{Exit, refusal, exit_of}
use Rattle.cmd_draw.specs.Answers.{draw_error_exit}
use Rattle.cmd_draw.specs.Drawing.{Draws}
use Rattle.cmd_draw.specs.declared.drawing.Wanted.{Wanted}
use Rattle.diagram_import.specs.Margin.Texts.{notes_of_text}
use Rattle.cmd_import_diagram.specs.Importing.{IsChartOf}
use Rattle.cmd_import_diagram.specs.Refusals.{diagram_refusal_text}
use Rattle.cmd_draw.specs.declared.imports.drawing.PictureError.{PictureError}
use Rattle.cmd_draw.specs.declared.imports.drawing.PictureError.TheVariants.{Diagram, Picture}
use Rattle.cmd_draw.specs.Imports.Diagnostics.{AreDiagnosticsOf, pictured_exit}
use Rattle.cmd_draw.specs.Imports.Turns.{turns_of_text}
use Rattle.cmd_draw.specs.declared.imports.diagnostics.Diagnostics.{Diagnostics}
use Rattle.diagram_join.specs.declared.building.JoinedChart.{JoinedChart}
use Rattle.chart_layout.specs.Margin.Notes.{note_view}
use Rattle.chart_layout.specs.declared.margin.MarginNote.{MarginNote}
use Rattle.texts.specs.Outs.{Sink}
use Rattle.diagram_tool.specs.declared.Tool.{Tool}

module _ {S : Type 0} (sink : S → Sink) where
  -- the chart in the bytes was drawn, by the turns of the diagram's rows and with its notes, and the warnings are those
  -- about it. Otherwise the picture is refused; or nothing was written, since the bytes are refused or memory ran out
  abbrev pub DrawsDiagram : S → S → Option Tool → List ℕ → OptionsView → Wanted → Result Diagnostics PictureError → Type 0
  DrawsDiagram old new tool bytes options wanted (Ok diagnostics) = (built : JoinedChart) × (notes : List MarginNote)
      × IsChartOf built tool bytes options × AreDiagnosticsOf diagnostics built × (map note_view notes ≡ notes_of_text tool bytes options)
      × Draws sink old new (Ok tt) wanted (turns_of_text tool bytes options) notes (built.built.names, built.built.chart)
  DrawsDiagram old new tool bytes options wanted (Err (Diagram error)) = Fails error (imported tool bytes options) × (new ≡ old)
  DrawsDiagram old new tool bytes options wanted (Err (Picture error)) = (built : JoinedChart) × (notes : List MarginNote)
      × IsChartOf built tool bytes options × (map note_view notes ≡ notes_of_text tool bytes options)
      × Draws sink old new (Err error) wanted (turns_of_text tool bytes options) notes (built.built.names, built.built.chart)

-- the status and the line of a refusal
abbrev pub picture_error_exit : PictureError → Exit
picture_error_exit (Diagram error) = refusal (diagram_refusal_text error)
picture_error_exit (Picture error) = draw_error_exit error

-- the status and the lines for a picture that was drawn or refused
abbrev pub picture_exit : Result Diagnostics PictureError → Exit
picture_exit = exit_of pictured_exit picture_error_exit
