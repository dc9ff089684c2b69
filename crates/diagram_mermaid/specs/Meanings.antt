-- The meanings of statements (Mermaid's documentation of sequence diagrams).
use Rattle.std.specs.Prelude.{◌≡◌, ℕ, Bool, true, false, ◌||◌, ◌==◌, List, [], ◌∷◌, ◌++◌, codes, length, is_some, Option, None, Some, option_map, nat_eq, if◌then◌else◌}
use Rattle.std.specs.List.{starts_with}
use Rattle.diagram_statements.specs.Statements.{ElementView, element_view, StatementView, Named, ArrowElement, NoteElement, Begin, Branch, EndElement, BeginBox, AtParticipant, AtSeveral}
use Rattle.texts.specs.Words.{behind_blanks, behind_keyword, behind_keyword_of, behind_word, first_place, begins_blank, skip_word, stripped, or_else}
use Rattle.texts.specs.Bytes.Classes.{is_blank}
use Rattle.diagram_statements.specs.declared.statement.Group.TheVariants.{Choice, Parallel, Break}
use Rattle.diagram_statements.specs.declared.statement.Place.{Place}
use Rattle.diagram_mermaid.specs.Arrows.{arrow_of}
use Rattle.diagram_mermaid.specs.Names.{is_listed}
use Rattle.diagram_mermaid.specs.Notes.{NoteView, note_of, name_statements}
use Rattle.diagram_mermaid.specs.Participants.{behind_participant, participant_of}
use Rattle.diagram_mermaid.specs.declared.meaning.Meaning.{Meaning}
use Rattle.diagram_mermaid.specs.declared.meaning.Meaning.TheVariants as meanings

-- the meaning of a statement: it concerns how the diagram looks, it is an element, or it is a note at several
-- participants
pub data MeaningView : Type 0 where
  Look : MeaningView
  Says : (element : ElementView) → MeaningView
  Notes : (names : List ℕ) → MeaningView

abbrev pub meaning_view : Meaning → MeaningView
meaning_view meanings.Look = Look
meaning_view (meanings.Says element) = Says (element_view element)
meaning_view (meanings.Notes names) = Notes names.now

abbrev pub Keyword : Type 0
Keyword = List ℕ × ElementView

-- the meanings of words that begin a statement: groups, boxes, and other branches
abbrev pub keywords : List Keyword
keywords =
    (codes "alt", Begin Choice) ∷ (codes "opt", Begin Choice) ∷ (codes "loop", Begin Choice)
    ∷ (codes "par", Begin Parallel) ∷ (codes "par_over", Begin Parallel) ∷ (codes "critical", Begin Choice)
    ∷ (codes "break", Begin Break) ∷ (codes "box", BeginBox) ∷ (codes "rect", BeginBox) ∷ (codes "else", Branch)
    ∷ (codes "and", Branch) ∷ (codes "option", Branch) ∷ []

-- the meaning of the first of these words with which a statement begins
abbrev pub keyword_at : List Keyword → List ℕ → Option ElementView
keyword_at [] words = None
keyword_at (k ∷ ks) words = if is_some (behind_keyword k.0 words) then Some k.1 else keyword_at ks words

unfoldable pub keyword_of : List ℕ → Option ElementView
keyword_of words = keyword_at keywords words

abbrev pub alone_by : Option (List ℕ) → Bool
alone_by None = false
alone_by (Some rest) = length rest == 0 || starts_with nat_eq (behind_blanks rest) (codes "%%")

-- a statement is this word; a comment may follow it
unfoldable pub is_alone : List ℕ → List ℕ → Bool
is_alone known words = alone_by (behind_word known words)

abbrev pub title_by : Option (List ℕ) → Bool
title_by None = false
title_by (Some rest) = begins_blank (skip_word (codes ":") rest)

unfoldable pub is_title : List ℕ → Bool
is_title words = title_by (behind_word (codes "title") words)

abbrev pub link_by : Option (List ℕ) → Bool
link_by None = false
link_by (Some rest) = begins_blank rest

unfoldable pub is_link : List ℕ → Bool
is_link words =
    link_by (behind_keyword_of (codes "link" ∷ codes "links" ∷ codes "properties" ∷ codes "details" ∷ []) words)

-- a statement only concerns how the diagram looks
unfoldable pub is_look : List ℕ → Bool
is_look words =
    is_alone (codes "sequenceDiagram") words || is_some (behind_keyword (codes "autonumber") words) || is_title words
    || is_link words

-- the participant that these bytes name
unfoldable pub listed_of : List ℕ → Option ElementView
listed_of bytes = if is_listed bytes then Some (Named (record { word = stripped bytes; label = None })) else None

abbrev pub named_by : Option (List ℕ) → Option ElementView
named_by None = None
named_by (Some []) = None
named_by (Some (b ∷ name)) = listed_of name

-- an activation names a participant, and has no other meaning
unfoldable pub activation_of : List ℕ → Option ElementView
activation_of words =
    named_by (behind_keyword_of (codes "activate" ∷ codes "deactivate" ∷ codes "destroy" ∷ []) words)

abbrev pub note_by : NoteView → Option ℕ → MeaningView
note_by note (Some place) = Notes note.0
note_by note None = Says (NoteElement (AtParticipant (stripped note.0)) note.1)

-- a note at one participant or at several
unfoldable pub note_meaning : NoteView → MeaningView
note_meaning note = note_by note (first_place 44 note.0)

abbrev pub look_or_arrow : List ℕ → Option MeaningView
look_or_arrow words = if is_look words then Some Look else option_map (λ arrow. Says (ArrowElement arrow)) (arrow_of words)

-- the meaning of a statement that is neither a participant nor a note
unfoldable pub by_form : List ℕ → Option MeaningView
by_form words =
    or_else (option_map Says (activation_of words)) (
    or_else (option_map Says (keyword_of words)) (
    if is_alone (codes "end") words then Some (Says EndElement) else look_or_arrow words))

abbrev pub other_by : List ℕ → Option NoteView → Option MeaningView
other_by words None = by_form words
other_by words (Some note) = Some (note_meaning note)

abbrev pub meaning_by : List ℕ → Option (List ℕ) → Option MeaningView
meaning_by words None = other_by words (note_of words)
meaning_by words (Some named) = option_map Says (participant_of named)

-- the meaning of a statement, if it can be read
unfoldable pub meaning_of : List ℕ → Option MeaningView
meaning_of words = meaning_by words (behind_participant words)

-- the statements of a meaning at this place
abbrev pub statements_of : Place → MeaningView → List StatementView
statements_of place Look = []
statements_of place (Says element) = record { place = place; element = element } ∷ []
statements_of place (Notes names) = name_statements place names ++ record { place = place; element = NoteElement AtSeveral [] } ∷ []

-- the statements of these words at a place
unfoldable pub says : Place → List ℕ → Option (List StatementView)
says place words = option_map (statements_of place) (meaning_of words)

-- the statements of words were added, if the words can be read; otherwise none were
abbrev pub Adds : Bool → List StatementView → List StatementView → Option (List StatementView) → Type 0
Adds true old new element = (more : List StatementView) × (element ≡ Some more) × (new ≡ old ++ more)
Adds false old new element = (element ≡ None) × (new ≡ old)
