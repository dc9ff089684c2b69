-- Diagrams whose notes state no send and no receive.
use Rattle.std.specs.Prelude.{◌≡◌, ℕ, suc, List, None}
use Rattle.diagrams.specs.Diagrams.{ItemView, AnArrow, ANote}
use Rattle.diagrams.specs.NoteEvents.{note_event}

-- the item is an arrow, or a note that states no event; these names are those of the participants
abbrev pub StatesNone : List (List ℕ) → ItemView → Type 0
StatesNone names (AnArrow a) = Unit {0}
StatesNone names (ANote n) = note_event names (suc n.participant) n.text ≡ None
