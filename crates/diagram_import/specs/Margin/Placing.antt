-- The places of remarks among the messages of a picture. Each remark is above the first message of its line or of a
-- line below. Remarks between two messages have one place.
use Rattle.std.specs.Prelude.{ℕ, suc, Bool, false, ◌==◌, ◌||◌, List, [], ◌∷◌, ◌++◌, length, map, fold, codes, Option, None, Some, if◌then◌else◌}
use Rattle.diagrams.specs.declared.message.Message.{Message}
use Rattle.chart_layout.specs.Margin.Notes.{NoteView, note_view}
use Rattle.diagram_import.specs.Margin.Order.{ThingView, things_of}
use Rattle.diagram_import.specs.Margin.Remarks.{RemarkView}
use Rattle.diagram_import.specs.declared.margin.placing.Margin.{Margin}

-- the notes beside the rows so far, the number of messages above, and the words above the next message
pub record MarginView : Type 0 where
  pub notes : List NoteView
  pub above : ℕ
  pub words : List ℕ
  pub divides : Bool

abbrev pub placed_view : Margin → MarginView
placed_view p = record { notes = map note_view p.notes.items; above = p.above; words = p.words.items; divides = p.divides }

abbrev pub nothing : MarginView
nothing = record { notes = []; above = 0; words = []; divides = false }

-- more words, after those of the same place
abbrev pub with_words : List ℕ → List ℕ → List ℕ
with_words words more = if length words == 0 then words ++ more else (words ++ codes " / ") ++ more

-- the words above the next message as a note, if there are any
abbrev pub flushed : MarginView → List NoteView
flushed p = if length p.words == 0 then [] else record { above = p.above; text = p.words; divides = p.divides } ∷ []

-- the margin with the words above the next message
abbrev pub ended : MarginView → MarginView
ended p = record { notes = p.notes ++ flushed p; above = p.above; words = p.words; divides = p.divides }

-- one more message
abbrev pub with_message : MarginView → MarginView
with_message p = record { notes = p.notes ++ flushed p; above = suc p.above; words = []; divides = false }

abbrev pub with_thing_by : MarginView → Bool → Option (List ℕ) → MarginView
with_thing_by p divides None = with_message p
with_thing_by p divides (Some more) = record {
  notes = p.notes;
  above = p.above;
  words = with_words p.words more;
  divides = p.divides || divides;
}

-- one more remark or message
abbrev pub with_thing : MarginView → ThingView → MarginView
with_thing p t = with_thing_by p t.divides t.words

-- the notes beside the rows
unfoldable pub placed : List RemarkView → List Message → List NoteView
placed remarks messages = (ended (fold with_thing nothing (things_of remarks messages))).notes
