-- The diagram of statements, from the top.
use Rattle.std.specs.Prelude.{ℕ, List, [], ◌∷◌, map, Option, None, Some, Result, Ok, Err}
use Rattle.diagrams.specs.Diagrams.{DiagramView, ParticipantView}
use Rattle.diagram_statements.specs.ToDiagram.Acts.{ActView}
use Rattle.diagram_statements.specs.ToDiagram.Drawings.{DrawingView, no_drawing, done}
use Rattle.diagram_statements.specs.ToDiagram.Frames.{Step, framed}
use Rattle.diagram_statements.specs.ToDiagram.Labels.{label_of}
use Rattle.diagram_statements.specs.ToDiagram.Participants.{NamedView}
use Rattle.diagram_statements.specs.declared.to_diagram.frames.Frame.{Frame}
use Rattle.diagram_statements.specs.declared.to_diagram.labels.Breaks.{Breaks}
use Rattle.diagram_statements.specs.Readings.{ReadView}
use Rattle.diagram_statements.specs.Statements.{StatementView}
use Rattle.diagram_statements.specs.declared.statement.Fault.{Fault}
use Rattle.diagram_statements.specs.declared.statement.Place.{Place}

-- the diagram after a statement that may have an action
abbrev pub behind : Breaks → Place → Option ActView → DrawingView → DrawingView
behind breaks place None d = d
behind breaks place (Some act) d = done breaks place act d

abbrev pub folded_by : (List Frame → DrawingView → Result DrawingView Fault) → Breaks → Place → DrawingView → Step
    → Result DrawingView Fault
folded_by others breaks place d (Err fault) = Err fault
folded_by others breaks place d (Ok step) = others step.0 (behind breaks place step.1 d)

-- the drawing of statements, within these frames and after what is drawn so far
abbrev pub folded_from : Breaks → List Frame → DrawingView → List StatementView → Result DrawingView Fault
folded_from breaks frames d [] = Ok d
folded_from breaks frames d (s ∷ ss) =
    folded_by (λ f e. folded_from breaks f e ss) breaks s.place d (framed frames s)

-- a participant with its label as it is shown
abbrev pub participant_of : Breaks → NamedView → ParticipantView
participant_of breaks p = record { label = label_of breaks p.label; line = p.line }

abbrev pub finished : Breaks → Result DrawingView Fault → Result DiagramView Fault
finished breaks (Err fault) = Err fault
finished breaks (Ok d) = Ok (record {
  participants = map (participant_of breaks) d.participants;
  items = d.rows.items;
  left_out = d.rows.left_out;
})

-- the diagram of statements
unfoldable pub folded_of : Breaks → List StatementView → Result DiagramView Fault
folded_of breaks statements = finished breaks (folded_from breaks [] no_drawing statements)

-- a fault of the text comes after those of the statements above it
abbrev pub unless : Option Fault → Result DiagramView Fault → Result DiagramView Fault
unless later (Err fault) = Err fault
unless None (Ok d) = Ok d
unless (Some later) (Ok d) = Err later

-- the diagram of a text, or its first fault
unfoldable pub diagram_of : Breaks → ReadView → Result DiagramView Fault
diagram_of breaks read = unless read.1 (folded_of breaks read.0)
