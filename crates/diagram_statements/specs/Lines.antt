-- Lines of a text, with their places: a line feed ends a line, and both numbers count from 1.
use Rattle.std.specs.Prelude.{ℕ, zero, suc, ◌+◌, List, [], ◌∷◌, length, take, drop, unwrap_or}
use Rattle.diagram_statements.specs.Statements.{LineView}
use Rattle.texts.specs.Words.{blank_length, stripped, first_place}
use Rattle.diagram_statements.specs.declared.statement.Place.{Place}

abbrev pub line_place : LineView → Place
line_place l = record { line = l.number; column = l.column }

-- the rest of a line after this number of bytes
abbrev pub after : ℕ → LineView → LineView
after count l = record { number = l.number; column = l.column + count; words = drop count l.words }

-- a line without the blanks at its ends
unfoldable pub stripped_line : LineView → LineView
stripped_line l = record { number = l.number; column = l.column + blank_length l.words; words = stripped l.words }

-- this number of its first bytes, without the blanks at their ends
unfoldable pub front_of : ℕ → LineView → LineView
front_of count l = stripped_line (record { number = l.number; column = l.column; words = take count l.words })

-- the number of bytes before the line feed that ends the line, or before the text's end
unfoldable pub line_length : List ℕ → ℕ
line_length text = unwrap_or (first_place 10 text) (length text)

-- the first line of a text, with this number and without the blanks at its ends
abbrev pub first_line : ℕ → List ℕ → LineView
first_line number text = stripped_line (record { number = number; column = 1; words = take (line_length text) text })

-- at most this many lines of a text; the first one has this number
abbrev pub lines_from : ℕ → ℕ → List ℕ → List LineView
lines_from zero number text = []
lines_from (suc n) number [] = []
lines_from (suc n) number (b ∷ bs) =
    record { number = number; column = 1; words = take (line_length (b ∷ bs)) (b ∷ bs) }
    ∷ lines_from n (suc number) (drop (suc (line_length (b ∷ bs))) (b ∷ bs))

-- the lines of a text
unfoldable pub lines_of : List ℕ → List LineView
lines_of text = lines_from (length text) 1 text
