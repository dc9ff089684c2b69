-- The words of notes and dividers that a reader of statements ignores, taken from the text (PlantUML, Mermaid).
use Rattle.std.specs.Prelude.{ℕ, ◌+◌, ◌-◌, min, Bool, not, ◌==◌, ◌||◌, List, [], ◌∷◌, length, fold, take, drop, codes, position, Option, None, Some}
use Rattle.diagram_import.specs.Shown.{without_lines, from_column}
use Rattle.diagram_statements.specs.Lines.{line_length}
use Rattle.texts.specs.Words.{first_place, place_of}
use Rattle.texts.specs.Bytes.Classes.{is_blank}
use Rattle.diagram_statements.specs.declared.statement.Place.{Place}

abbrev pub least_at : ℕ → Option ℕ → ℕ
least_at n None = n
least_at n (Some place) = min n place

-- the lesser of a length and the first place of these bytes
abbrev pub least : List ℕ → ℕ → List ℕ → ℕ
least text n known = least_at n (place_of known text)

-- the text before the first of these ends
unfoldable pub up_to : List (List ℕ) → List ℕ → List ℕ
up_to ends text = take (fold (least text) (length text) ends) text

-- the text before the first line feed
abbrev pub first_line : List ℕ → List ℕ
first_line text = take (line_length text) text

-- the line of a place, from the place on
unfoldable pub words_at : List ℕ → Place → List ℕ
words_at text place = from_column place.column (first_line (without_lines (place.line - 1) text))

-- the words that end a note of several lines
abbrev pub note_ends : List (List ℕ)
note_ends =
    codes "end note" ∷ codes "endnote" ∷ codes "end hnote" ∷ codes "endhnote" ∷ codes "end rnote" ∷ codes "endrnote" ∷ []

abbrev pub note_words_at : List ℕ → Place → List ℕ → Option ℕ → List ℕ
note_words_at text place words None = up_to note_ends (without_lines place.line text)
note_words_at text place words (Some colon) = drop (colon + 1) words

-- the words of a note that begins at a place: those after its colon (byte 58), or in the lines below it
unfoldable pub note_words : List ℕ → Place → List ℕ
note_words text place = note_words_at text place (words_at text place) (first_place 58 (words_at text place))

-- a byte is a sign or a blank of a divider: = or .
abbrev pub is_sign : ℕ → Bool
is_sign b = b == 61 || (b == 46 || is_blank b)

abbrev pub divider_ends : List (List ℕ)
divider_ends = codes "==" ∷ codes "..." ∷ []

abbrev pub behind_signs_at : List ℕ → Option ℕ → List ℕ
behind_signs_at words None = words
behind_signs_at words (Some place) = up_to divider_ends (drop place words)

-- the words between the signs of a divider, or the signs if there are no words
unfoldable pub behind_signs : List ℕ → List ℕ
behind_signs words = behind_signs_at words (position (λ b. not (is_sign b)) words)

-- the words of a divider that begins at a place
unfoldable pub divider_words : List ℕ → Place → List ℕ
divider_words text place = behind_signs (words_at text place)
