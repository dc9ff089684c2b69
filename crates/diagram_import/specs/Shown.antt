-- The words that are reported for a place.
use Rattle.std.specs.Prelude.{ℕ, zero, suc, ◌-◌, ◌==◌, List, Option, None, Some, map, take, drop, position}
use Rattle.diagram_statements.specs.Lines.{line_length}
use Rattle.texts.specs.Bytes.Classes.{printable}
use Rattle.diagrams.specs.declared.place.Place.{Place}

abbrev pub before_at : List ℕ → Option ℕ → List ℕ
before_at text None = text
before_at text (Some place) = take place text

-- the text before the first byte with this value
unfoldable pub before : ℕ → List ℕ → List ℕ
before byte text = before_at text (position (λ b. b == byte) text)

-- the text without its first lines, this many
unfoldable pub without_lines : ℕ → List ℕ → List ℕ
without_lines zero text = text
without_lines (suc n) text = without_lines n (drop (suc (line_length text)) text)

-- a line from this column on; columns are counted from 1
abbrev pub from_column : ℕ → List ℕ → List ℕ
from_column column line = drop (column - 1) line

-- the first line, up to a carriage return
abbrev pub first_line : List ℕ → List ℕ
first_line text = before 13 (before 10 text)

-- at most 40 bytes from this column on, with `?` for each that doesn't print
abbrev pub shown_from : ℕ → List ℕ → List ℕ
shown_from column line = map printable (take 40 (from_column column line))

-- the words that are reported for a place
unfoldable pub words_at : List ℕ → Place → List ℕ
words_at text place = shown_from place.column (first_line (without_lines (place.line - 1) text))
