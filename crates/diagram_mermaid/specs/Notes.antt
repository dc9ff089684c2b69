-- Notes (Mermaid's documentation of sequence diagrams, "Notes").
use Rattle.std.specs.Prelude.{ℕ, suc, ◌==◌, List, [], ◌∷◌, codes, map, take, drop, Option, None, Some, nat_eq, if◌then◌else◌}
use Rattle.std.specs.List.{starts_with}
use Rattle.diagram_statements.specs.Statements.{StatementView, Named}
use Rattle.texts.specs.Words.{behind_blanks, behind_keyword, behind_keyword_of, place_of, stripped, or_else}
use Rattle.diagram_statements.specs.declared.statement.Place.{Place}
use Rattle.diagram_mermaid.specs.Names.{are_listed}
use Rattle.diagram_mermaid.specs.Texts.{before_colon, behind_colon, text_of}
use Rattle.diagram_mermaid.specs.declared.note.Note.{Note}

-- the words for a note's participants, with commas between them, and its text
abbrev pub NoteView : Type 0
NoteView = List ℕ × List ℕ

abbrev pub note_view : Note → NoteView
note_view n = (n.names.now, n.text.now)

abbrev pub of_by : Option (List ℕ) → Option (List ℕ)
of_by None = None
of_by (Some rest) = behind_keyword (codes "of") (behind_blanks rest)

-- the text after `left of` or `right of`
unfoldable pub side_of : List ℕ → Option (List ℕ)
side_of words = of_by (behind_keyword_of (codes "left" ∷ codes "right" ∷ []) words)

-- the text after the words for a note's position
unfoldable pub behind_side : List ℕ → Option (List ℕ)
behind_side words = or_else (behind_keyword (codes "over") words) (side_of words)

abbrev pub text_by : List ℕ → Option (List ℕ) → Option NoteView
text_by names None = None
text_by names (Some text) = Some (names, text_of text)

-- the names come before the colon, and the text after it
unfoldable pub note_by : List ℕ → Option NoteView
note_by words =
    if are_listed (before_colon words) then text_by (before_colon words) (behind_colon words) else None

-- a blank is before the names
abbrev pub named_by : Option (List ℕ) → Option NoteView
named_by None = None
named_by (Some []) = None
named_by (Some (b ∷ names)) = note_by names

abbrev pub side_by : Option (List ℕ) → Option NoteView
side_by None = None
side_by (Some rest) = named_by (behind_side (behind_blanks rest))

-- the note of a statement, if it is one
unfoldable pub note_of : List ℕ → Option NoteView
note_of words = side_by (behind_keyword (codes "note") words)

-- one more byte at the front of the first of these
abbrev pub with_first : ℕ → List (List ℕ) → List (List ℕ)
with_first b [] = (b ∷ []) ∷ []
with_first b (w ∷ ws) = (b ∷ w) ∷ ws

-- the texts before, between and after the commas
abbrev pub parted : List ℕ → List (List ℕ)
parted [] = [] ∷ []
parted (b ∷ bs) = if starts_with nat_eq (b ∷ bs) (codes ",") then [] ∷ parted bs else with_first b (parted bs)

abbrev pub next_by : List ℕ → Option ℕ → Option (List ℕ × List ℕ)
next_by names None = None
next_by names (Some place) = Some (take place names, drop (suc place) names)

-- the text before the first comma, and the text after it
unfoldable pub next_name : List ℕ → Option (List ℕ × List ℕ)
next_name names = next_by names (place_of (codes ",") names)

-- a statement that names a participant by the word of these bytes
abbrev pub name_at : Place → List ℕ → StatementView
name_at place name = record { place = place; element = Named (record { word = stripped name; label = None }) }

-- a statement for each of these words, which names a participant
unfoldable pub name_statements : Place → List ℕ → List StatementView
name_statements place names = map (name_at place) (parted names)
