-- Notes and references (PlantUML's documentation of sequence diagrams, "Notes on messages", "Some other notes",
-- "Changing notes shape", "Note over all participants", "Reference").
use Rattle.std.specs.Prelude.{ℕ, zero, suc, ◌+◌, Bool, true, false, List, [], ◌∷◌, codes, length, drop, Option, None, Some, option_map, nat_eq, if◌then◌else◌}
use Rattle.std.specs.List.{starts_with}
use Rattle.diagram_statements.specs.Statements.{StatementView, Named}
use Rattle.texts.specs.Words.{behind_blanks, behind_word, place_of, or_else}
use Rattle.diagram_statements.specs.declared.statement.Place.{Place}
use Rattle.diagram_statements.specs.Options.{◌>>=◌}
use Rattle.diagram_plantuml_arrows.specs.Arrows.{row_at}
use Rattle.diagram_plantuml_arrows.specs.Names.{behind_gap, name_at}
use Rattle.diagram_plantuml_arrows.specs.Runs.{behind_byte}
use Rattle.diagram_plantuml_arrows.specs.Tails.{behind_colour, colon_tail, coloured_tail}
use Rattle.diagram_plantuml_arrows.specs.declared.runs.Class.TheVariants.{Word, Colour}
use Rattle.diagram_plantuml_statements.specs.declared.note.Note.{Note}

-- the beginning of its participants' names, whether it is at all participants, and its text, if that is in this line
abbrev pub NoteView : Type 0
NoteView = Option (List ℕ) × Bool × Option (List ℕ)

abbrev pub note_view : Note → NoteView
note_view n = (option_map (λ names. names.now) n.names, n.is_across, option_map (λ text. text.now) n.text)

-- the text after a comma and the blanks around it
unfoldable pub behind_comma : List ℕ → Option (List ℕ)
behind_comma bytes = option_map behind_blanks (behind_byte 44 (behind_blanks bytes))

abbrev pub others_by : (List ℕ → Option (List ℕ)) → List ℕ → Option (List ℕ) → Option (List ℕ)
others_by others behind None = Some behind
others_by others behind (Some next) = others next

-- the text after at most this many names
abbrev pub behind_names_from : ℕ → List ℕ → Option (List ℕ)
behind_names_from zero bytes = None
behind_names_from (suc n) bytes = do
  name ← name_at bytes
  others_by (behind_names_from n) name.1 (behind_comma name.1)

-- the text after names with commas between them
unfoldable pub behind_names : List ℕ → Option (List ℕ)
behind_names bytes = behind_names_from (suc (length bytes)) bytes

-- a statement that names a participant by this word
abbrev pub name_statement : Place → List ℕ → StatementView
name_statement place word = record { place = place; element = Named (record { word = word; label = None }) }

abbrev pub statements_next : (List ℕ → List StatementView) → Option (List ℕ) → List StatementView
statements_next others None = []
statements_next others (Some next) = others next

abbrev pub statements_by : (List ℕ → List StatementView) → Place → Option (List ℕ × List ℕ) → List StatementView
statements_by others place None = []
statements_by others place (Some name) = name_statement place name.0 ∷ statements_next others (behind_comma name.1)

-- statements that name participants by at most this many words
abbrev pub statements_from : ℕ → Place → List ℕ → List StatementView
statements_from zero place bytes = []
statements_from (suc n) place bytes = statements_by (statements_from n place) place (name_at bytes)

-- statements that name participants by these words, with commas between the words
unfoldable pub name_statements : Place → List ℕ → List StatementView
name_statements place bytes = statements_from (suc (length bytes)) place bytes

abbrev pub stereotype_by : List ℕ → Option ℕ → List ℕ
stereotype_by bytes None = bytes
stereotype_by bytes (Some place) = drop (place + 4) bytes

-- a stereotype may come next
unfoldable pub behind_stereotype : List ℕ → List ℕ
behind_stereotype bytes =
    if starts_with nat_eq bytes (codes "<<") then stereotype_by bytes (place_of (codes ">>") (drop 2 bytes)) else bytes

-- the text after the word for a note, by its shape
unfoldable pub note_word : List ℕ → Option (List ℕ)
note_word bytes =
    or_else (behind_word (codes "note") bytes) (or_else (behind_word (codes "hnote") bytes) (behind_word (codes "rnote") bytes))

abbrev pub slash_by : List ℕ → Option (List ℕ) → List ℕ
slash_by bytes None = behind_blanks bytes
slash_by bytes (Some rest) = behind_blanks rest

-- a slash states that a note is beside the one above it
unfoldable pub behind_slash : List ℕ → List ℕ
behind_slash bytes = slash_by bytes (behind_byte 47 bytes)

-- the text after the words with which a note begins
unfoldable pub behind_note : List ℕ → Option (List ℕ)
behind_note words = do
  rest ← note_word (behind_slash (row_at words).1)
  Some (behind_blanks (behind_stereotype (behind_blanks rest)))

-- a note at the names that come next
unfoldable pub placed_at : List ℕ → Option NoteView
placed_at bytes = do
  names ← behind_gap bytes
  rest ← behind_names names
  text ← coloured_tail rest
  Some (Some names, false, text)

-- the text after the word for a side
unfoldable pub side_word : List ℕ → Option (List ℕ)
side_word bytes =
    or_else (behind_word (codes "left") bytes) (or_else (behind_word (codes "right") bytes) (behind_word (codes "over") bytes))

unfoldable pub behind_of : List ℕ → Option (List ℕ)
behind_of bytes = do
  rest ← behind_gap bytes
  behind_word (codes "of") rest

unfoldable pub placed_of : List ℕ → Option NoteView
placed_of bytes = do
  rest ← behind_of bytes
  placed_at rest

abbrev pub placed_by : List ℕ → Option NoteView
placed_by rest = or_else (placed_of rest) (placed_at rest)

-- a note at participants that it names; `of` may come before them
unfoldable pub placed : List ℕ → Option NoteView
placed bytes = do
  rest ← side_word bytes
  placed_by rest

-- a note without names, after this word
unfoldable pub unplaced : Bool → List ℕ → List ℕ → Option NoteView
unplaced is_across word bytes = do
  rest ← behind_word word bytes
  text ← coloured_tail rest
  Some (None, is_across, text)

-- a note at the arrow above it
unfoldable pub bare : List ℕ → Option NoteView
bare bytes =
    or_else (unplaced false (codes "left") bytes) (or_else (unplaced false (codes "right") bytes) (
    or_else (unplaced false (codes "top") bytes) (unplaced false (codes "bottom") bytes)))

-- a note at all participants, in either spelling
unfoldable pub across : List ℕ → Option NoteView
across bytes = or_else (unplaced true (codes "across") bytes) (unplaced true (codes "accross") bytes)

abbrev pub note_by : List ℕ → Option NoteView
note_by rest = or_else (placed rest) (or_else (bare rest) (across rest))

-- the note that a statement is or begins
unfoldable pub note_of : List ℕ → Option NoteView
note_of words = do
  rest ← behind_note words
  note_by rest

-- the reference that a statement is or begins
unfoldable pub reference_of : List ℕ → Option NoteView
reference_of words = do
  behind_ref ← behind_word (codes "ref") words
  gap ← behind_gap (behind_colour Word behind_ref)
  behind_over ← behind_word (codes "over") gap
  names ← behind_gap behind_over
  rest ← behind_names names
  text ← colon_tail (behind_colour Colour (behind_blanks rest))
  Some (Some names, false, text)
