-- The names of a diagram's participants and of its messages. Each participant has a name of its own. Messages with one
-- label have one name.
use Rattle.std.specs.Prelude.{ℕ, List, [], ◌∷◌, ◌++◌, Option, None, Some, slice_get}
use Rattle.diagram_labels.specs.Giving.{called}
use Rattle.diagram_labels.specs.Labels.{Labelling, with_label, name_of}
use Rattle.diagram_labels.specs.Spelling.{spelled}
use Rattle.diagrams.specs.Diagrams.{ParticipantView, ItemView, AnArrow, ANote}
use Rattle.diagrams.specs.NoteEvents.{EventWordsView, words_in}
use Rattle.diagrams.specs.declared.message.Message.{Message}
use Rattle.diagrams.specs.declared.messages.message.Named.{Named}

-- these names, and then those of the participants
unfoldable pub names_from : List (List ℕ) → List ParticipantView → List (List ℕ)
names_from names [] = names
names_from names (p ∷ participants) = names_from (names ++ called names (spelled p.label) ∷ []) participants

-- the word for the message in a note
abbrev pub message_word : Option EventWordsView → List ℕ
message_word None = []
message_word (Some words) = words.message

-- the label of an item's message
unfoldable pub label_of : ItemView → List ℕ
label_of (AnArrow a) = a.label
label_of (ANote n) = message_word (words_in n.text)

abbrev pub label_by : Option ItemView → List ℕ
label_by None = []
label_by (Some item) = label_of item

abbrev pub label_at : List ItemView → ℕ → List ℕ
label_at items place = label_by (slice_get items place)

-- the message with its name
abbrev pub named_as : Message → List ℕ → Named
named_as m name = record { sender = m.sender; receiver = m.receiver; begins = m.begins; ends = m.ends; is_lost = m.is_lost; name = name }

-- the labels, with those of these messages
unfoldable pub labels_from : Labelling → List ItemView → List Message → Labelling
labels_from labels items [] = labels
labels_from labels items (m ∷ messages) = labels_from (with_label labels (label_at items m.item)) items messages

-- these messages with their names, after the earlier labels
unfoldable pub named_from : Labelling → List ItemView → List Message → List Named
named_from labels items [] = []
named_from labels items (m ∷ messages) =
    named_as m (name_of (with_label labels (label_at items m.item)) (label_at items m.item))
    ∷ named_from (with_label labels (label_at items m.item)) items messages
