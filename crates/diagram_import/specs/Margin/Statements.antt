-- The notes of a PlantUML or Mermaid text that aren't items of its diagram, and its dividers. Those in branches that
-- aren't taken are skipped, as arrows are. They are the notes of the diagram in which each of them is a note at one
-- participant, with its own words.
use Rattle.std.specs.Prelude.{ℕ, Bool, true, false, not, ◌||◌, ◌==◌, List, [], ◌∷◌, ◌++◌, length, map, codes, Result, Ok, Err, None, if◌then◌else◌}
use Rattle.std.specs.List.{flat_map}
use Rattle.diagrams.specs.Diagrams.{DiagramView, ItemView, NoteView, AnArrow, ANote}
use Rattle.diagram_statements.specs.ToDiagram.Folds.{diagram_of}
use Rattle.diagram_statements.specs.declared.to_diagram.labels.Breaks.{Breaks}
use Rattle.diagram_statements.specs.Readings.{ReadView}
use Rattle.diagram_statements.specs.Statements.{StatementView, ElementView, NoteAtView, AtArrow, AtParticipant, AtSeveral, NoteElement, Divider, Delay}
use Rattle.diagram_statements.specs.declared.statement.Fault.{Fault}
use Rattle.diagram_statements.specs.declared.statement.Place.{Place}
use Rattle.diagram_import.specs.Margin.Plain.{plain_text}
use Rattle.diagram_import.specs.Margin.Remarks.{RemarkView}
use Rattle.diagram_import.specs.Margin.Sources.{note_words, divider_words}

-- a note is an item of its diagram: it is at one participant, and has a text in its line
abbrev pub has_item : NoteAtView → List ℕ → Bool
has_item AtArrow text = false
has_item (AtParticipant word) text = not (length text == 0)
has_item AtSeveral text = false

-- a note with these words, at one participant
abbrev pub noted : Place → List ℕ → StatementView
noted place words = record { place = place; element = NoteElement (AtParticipant (codes "note")) words }

-- a statement without an item
abbrev pub passed : Place → StatementView
passed place = record { place = place; element = Delay }

abbrev pub restated_element : Bool → List ℕ → Place → ElementView → StatementView
restated_element divides text place (NoteElement at own) =
    if divides || has_item at own then passed place else noted place (note_words text place)
restated_element divides text place Divider = if divides then noted place (divider_words text place) else passed place
restated_element divides text place Delay = if divides then noted place (divider_words text place) else passed place
restated_element divides text place element = record { place = place; element = element }

-- a statement for a search of dividers or of other notes; what is sought becomes a note with its own words at one
-- participant, and no other statement is a note
unfoldable pub restated : Bool → List ℕ → StatementView → StatementView
restated divides text s = restated_element divides text s.place s.element

-- the remark of a note, in one line
abbrev pub note_remark : Bool → NoteView → RemarkView
note_remark divides n = record { line = n.place.line; text = plain_text n.text; divides = divides }

-- the remark of an item, if it is a note
unfoldable pub item_remark : Bool → ItemView → List RemarkView
item_remark divides (AnArrow a) = []
item_remark divides (ANote n) = note_remark divides n ∷ []

unfoldable pub items_remarked : Bool → List ItemView → List RemarkView
items_remarked divides items = flat_map (item_remark divides) items

abbrev pub remarked : Bool → Result DiagramView Fault → List RemarkView
remarked divides (Ok d) = items_remarked divides d.items
remarked divides (Err fault) = []

-- the dividers of these statements, or the notes that aren't items
unfoldable pub restated_remarks : Breaks → Bool → List ℕ → List StatementView → List RemarkView
restated_remarks breaks divides text statements = remarked divides (diagram_of breaks (map (restated divides text) statements, None))

-- both the notes and the dividers
unfoldable pub statement_remarks : Breaks → List ℕ → List StatementView → List RemarkView
statement_remarks breaks text statements =
    restated_remarks breaks false text statements ++ restated_remarks breaks true text statements
