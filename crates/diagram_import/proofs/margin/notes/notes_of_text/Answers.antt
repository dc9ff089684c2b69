use Rattle.std.proofs.Common.{◌≡◌, Result, sym, subst}
use Rattle.std.specs.Prelude.{map, IfOk}
use Rattle.diagrams.specs.Diagrams.{DiagramView}
use Rattle.diagram_import.specs.Importing.{options_view}
use Rattle.diagram_import.specs.Refusals.{Refusal}
use Rattle.chart_layout.specs.Margin.Notes.{note_view}
use Rattle.diagram_import.specs.Margin.Texts.{notes_read, notes_of_text}
use Rattle.diagram_import.proofs.margin.notes.notes_of_text.Goals as goal

pub returns-in-Ok : goal.returns-in-Ok
unfolding notes_of_text
returns-in-Ok c =
    subst (λ (read : Result DiagramView Refusal). IfOk c.notes_of.result (λ notes. map note_view notes.items ≡ notes_read c.args.tool c.args.text.now (options_view c.args.options.now) read))
    (sym c.in-Ok.ensures) c.notes_of.ensures
