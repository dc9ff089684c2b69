-- A sequence diagram, independent of the tool that it was drawn for (mscgen 0.20, PlantUML, Mermaid).
use Rattle.std.specs.Prelude.{ℕ, Bool, List, map}
use Rattle.diagrams.specs.declared.diagram.Arrow.{Arrow}
use Rattle.diagrams.specs.declared.diagram.Note.{Note}
use Rattle.diagrams.specs.declared.diagram.Item.{Item}
use Rattle.diagrams.specs.declared.diagram.Item.TheVariants as items
use Rattle.diagrams.specs.declared.diagram.Participant.{Participant}
use Rattle.diagrams.specs.declared.diagram.Diagram.{Diagram}
use Rattle.diagrams.specs.declared.left_out.LeftOut.{LeftOut}
use Rattle.diagrams.specs.declared.place.Place.{Place}

-- a participant: its label, and the line that first names it
pub record ParticipantView : Type 0 where
  pub label : List ℕ
  pub line : ℕ

abbrev pub participant_view : Participant → ParticipantView
participant_view p = record { label = p.label.items; line = p.line }

-- an arrow: its place in the text, its rows, the places of its participants, its label, and whether nobody receives it
pub record ArrowView : Type 0 where
  pub place : Place
  pub begins : ℕ
  pub ends : ℕ
  pub sender : ℕ
  pub receiver : ℕ
  pub label : List ℕ
  pub is_lost : Bool

abbrev pub arrow_view : Arrow → ArrowView
arrow_view a = record {
  place = a.place;
  begins = a.begins;
  ends = a.ends;
  sender = a.sender;
  receiver = a.receiver;
  label = a.label.items;
  is_lost = a.is_lost;
}

-- a note at a participant
pub record NoteView : Type 0 where
  pub place : Place
  pub row : ℕ
  pub participant : ℕ
  pub text : List ℕ

abbrev pub note_view : Note → NoteView
note_view n = record { place = n.place; row = n.row; participant = n.participant; text = n.text.items }

-- an item of a diagram, which may be one event or two
pub data ItemView : Type 0 where
  AnArrow : ArrowView → ItemView
  ANote : NoteView → ItemView

abbrev pub item_view : Item → ItemView
item_view (items.Arrow a) = AnArrow (arrow_view a)
item_view (items.Note n) = ANote (note_view n)

-- a diagram: its participants and items in the order of the text, and its skipped constructs
pub record DiagramView : Type 0 where
  pub participants : List ParticipantView
  pub items : List ItemView
  pub left_out : List LeftOut

abbrev pub diagram_view : Diagram → DiagramView
diagram_view d = record {
  participants = map participant_view d.participants.items;
  items = map item_view d.items.items;
  left_out = d.left_out.items;
}
