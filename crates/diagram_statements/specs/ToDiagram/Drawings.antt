-- The effects of actions on a diagram.
use Rattle.std.specs.Prelude.{◌≡◌, ℕ, Bool, false, List, [], map, Option, None, Some, option_map, if◌then◌else◌}
use Rattle.diagrams.specs.declared.left_out.Kind.TheVariants as kinds
use Rattle.diagram_statements.specs.ToDiagram.Activations.{ActivationsView, activations_view, activated, deactivated, sent, returned, with_last}
use Rattle.diagram_statements.specs.ToDiagram.Acts.{ActView, EffectView, Draw, Activate, Deactivate, Return, ArrowsActivate, EndGroup, Name, Rename, DrawArrow, DrawNote, LeaveOut, PassBy, CloseRow}
use Rattle.diagram_statements.specs.ToDiagram.Participants.{NamedView, named_view, named, renamed}
use Rattle.diagram_statements.specs.ToDiagram.Rows.{RowsView, rows_view, no_rows, closed, with_arrow, with_left_out, with_note}
use Rattle.diagram_statements.specs.declared.to_diagram.activations.Ends.{Ends}
use Rattle.diagram_statements.specs.declared.to_diagram.drawing.Drawing.{Drawing}
use Rattle.diagram_statements.specs.declared.to_diagram.labels.Breaks.{Breaks}
use Rattle.diagram_statements.specs.Statements.{ArrowView, EndView, NoteAtView, AtArrow, AtParticipant, AtSeveral}
use Rattle.diagram_statements.specs.declared.statement.ArrowForm.{ArrowForm}
use Rattle.diagram_statements.specs.declared.statement.ArrowForm.TheVariants.{Message}
use Rattle.diagram_statements.specs.declared.statement.Place.{Place}

-- the diagram so far
pub record DrawingView : Type 0 where
  pub participants : List NamedView
  pub activations : ActivationsView
  pub rows : RowsView

abbrev pub drawing_view : Drawing → DrawingView
drawing_view d = record {
  participants = map named_view d.participants.items;
  activations = activations_view d.activations;
  rows = rows_view d.rows;
}

abbrev pub no_drawing : DrawingView
no_drawing = record {
  participants = [];
  activations = record { activating = []; last = None; arrows_activate = false };
  rows = no_rows;
}

abbrev pub with_rows : RowsView → DrawingView → DrawingView
with_rows rows d = record { participants = d.participants; activations = d.activations; rows = rows }

abbrev pub with_activations : ActivationsView → DrawingView → DrawingView
with_activations activations d = record { participants = d.participants; activations = activations; rows = d.rows }

abbrev pub with_participants : List NamedView → DrawingView → DrawingView
with_participants ps d = record { participants = ps; activations = d.activations; rows = d.rows }

-- the participant at an end of an arrow is named; the edge has none
abbrev pub end_named : List NamedView → ℕ → Option EndView → List NamedView × Option ℕ
end_named ps line None = (ps, None)
end_named ps line (Some end) = ((named ps line end).0, Some (named ps line end).1)

abbrev pub EndNames : Option ℕ → List NamedView → List NamedView × Option ℕ → Type 0
EndNames place ps step = (ps ≡ step.0) × (place ≡ step.1)

abbrev pub ends_of : Bool → Option ℕ → Option ℕ → Ends
ends_of goes_back first second =
    if goes_back then record { sender = second; receiver = first } else record { sender = first; receiver = second }

-- an arrow between these becomes the last one, and has its row
abbrev pub arrow_between : Breaks → Place → ArrowView → DrawingView → List NamedView → Ends → DrawingView
arrow_between breaks place arrow d ps ends = record {
  participants = ps;
  activations = sent ends arrow.activates d.activations;
  rows = with_arrow breaks place (record { ends = ends; form = arrow.form; label = arrow.label; is_beside = arrow.is_beside }) d.rows;
}

abbrev pub arrow_to : Breaks → Place → ArrowView → DrawingView → Option ℕ → List NamedView × Option ℕ → DrawingView
arrow_to breaks place arrow d first second =
    arrow_between breaks place arrow d second.0 (ends_of arrow.goes_back first second.1)

abbrev pub arrow_from : Breaks → Place → ArrowView → DrawingView → List NamedView × Option ℕ → DrawingView
arrow_from breaks place arrow d first =
    arrow_to breaks place arrow d first.1 (end_named first.0 place.line arrow.second)

-- an arrow names its participants, in the order of the text
abbrev pub arrow_added : Breaks → Place → ArrowView → DrawingView → DrawingView
arrow_added breaks place arrow d = arrow_from breaks place arrow d (end_named d.participants place.line arrow.first)

abbrev pub note_at : Place → List ℕ → DrawingView → List NamedView × ℕ → DrawingView
note_at place text d participant = record {
  participants = participant.0;
  activations = d.activations;
  rows = with_note place participant.1 text d.rows;
}

-- a note: at one participant its text may state an event
abbrev pub note_added : Place → NoteAtView → List ℕ → DrawingView → DrawingView
note_added place AtArrow text d = with_rows (with_left_out kinds.Note place d.rows) d
note_added place (AtParticipant word) text d =
    note_at place text d (named d.participants place.line (record { word = word; label = None }))
note_added place AtSeveral text d = with_rows (with_left_out kinds.Note place (closed d.rows)) d

-- something is drawn or skipped
abbrev pub folded : Breaks → Place → EffectView → DrawingView → DrawingView
folded breaks place (Name end) d = with_participants (named d.participants place.line end).0 d
folded breaks place (Rename end) d = with_participants (renamed d.participants place.line end) d
folded breaks place (DrawArrow arrow) d = arrow_added breaks place arrow d
folded breaks place (DrawNote at text) d = note_added place at text d
folded breaks place (LeaveOut kind) d = with_rows (with_left_out kind place d.rows) d
folded breaks place (PassBy kind) d = with_rows (with_left_out kind place (closed d.rows)) d
folded breaks place CloseRow d = with_rows (closed d.rows) d

abbrev pub back_rows : Breaks → Place → List ℕ → Bool → RowsView → Option Ends → RowsView
back_rows breaks place label is_beside r None = with_left_out kinds.Return place r
back_rows breaks place label is_beside r (Some ends) =
    with_arrow breaks place (record { ends = ends; form = Message; label = label; is_beside = is_beside }) r

abbrev pub back_by : Breaks → Place → List ℕ → Bool → DrawingView → Option Ends × ActivationsView → DrawingView
back_by breaks place label is_beside d back = record {
  participants = d.participants;
  activations = back.1;
  rows = back_rows breaks place label is_beside d.rows back.0;
}

-- the arrow of a return, which is skipped if it answers no arrow
abbrev pub given_back : Breaks → Place → List ℕ → Bool → DrawingView → DrawingView
given_back breaks place label is_beside d = back_by breaks place label is_beside d (returned d.activations)

abbrev pub activating : Bool → ActivationsView → ActivationsView
activating they_do a = record { activating = a.activating; last = a.last; arrows_activate = they_do }

-- the action of a statement; after a group there is no last arrow
abbrev pub done : Breaks → Place → ActView → DrawingView → DrawingView
done breaks place (Draw what) d = folded breaks place what d
done breaks place Activate d = with_activations (activated d.activations) d
done breaks place Deactivate d = with_activations (deactivated d.activations) d
done breaks place (Return label is_beside) d = given_back breaks place label is_beside d
done breaks place (ArrowsActivate they_do) d = with_activations (activating they_do d.activations) d
done breaks place EndGroup d = with_rows (closed d.rows) (with_activations (with_last None d.activations) d)
