-- Lines that continue: a line that ends in a single `\` continues in the next one, before anything else is read of
-- either.
use Rattle.std.specs.Prelude.{ℕ, zero, suc, ◌-◌, not, ◌&&◌, nat_eq, nat_lt, List, [], ◌∷◌, ◌++◌, length, take, drop, Option, None, Some, if◌then◌else◌}
use Rattle.std.specs.List.{ends_with}
use Rattle.diagram_statements.specs.Lines.{line_length}
use Rattle.diagram_statements.specs.declared.statement.Place.{Place}

-- the first line of a text
abbrev pub line_in : List ℕ → List ℕ
line_in text = take (line_length text) text

-- the text after its first line
abbrev pub below : List ℕ → List ℕ
below text = drop (suc (line_length text)) text

-- a line without the carriage return before its line feed
unfoldable pub without_return : List ℕ → List ℕ
without_return line = if ends_with nat_eq line (13 ∷ []) then take (length line - 1) line else line

abbrev pub piece_by : List ℕ → Option (List ℕ)
piece_by line =
    if ends_with nat_eq line (92 ∷ []) && not (ends_with nat_eq line (92 ∷ 92 ∷ [])) then Some (take (length line - 1) line) else None

-- a line that continues in the next one, without its sign
unfoldable pub piece_of : List ℕ → Option (List ℕ)
piece_of line = piece_by (without_return line)

-- this number of line feeds
abbrev pub line_feeds : ℕ → List ℕ
line_feeds zero = []
line_feeds (suc n) = 10 ∷ line_feeds n

abbrev pub added_by : ℕ → List ℕ → Option (List ℕ) → List ℕ × ℕ
added_by joints line None = (line ++ line_feeds (suc joints), 0)
added_by joints line (Some piece) = (piece, suc joints)

-- the bytes that a line adds to a joined text, and how many lines then continue in the next one; `joints` lines above
-- continue in this one
unfoldable pub added : ℕ → List ℕ → List ℕ × ℕ
added joints line = added_by joints line (piece_of line)

-- at most this many lines, joined; `joints` lines above continue in the first of them
abbrev pub joined_from : ℕ → ℕ → List ℕ → List ℕ
joined_from zero joints text = line_feeds joints
joined_from (suc n) joints [] = line_feeds joints
joined_from (suc n) joints (b ∷ bs) =
    (added joints (line_in (b ∷ bs))).0 ++ joined_from n (added joints (line_in (b ∷ bs))).1 (below (b ∷ bs))

-- A text whose lines are joined. After a joined line there is an empty line for each line that continues it, so that
-- the other lines keep their numbers.
unfoldable pub joined_text : List ℕ → List ℕ
joined_text text = joined_from (length text) 0 text

abbrev pub at : ℕ → ℕ → Place
at number before = record { line = number; column = suc before }

abbrev pub place_by : (ℕ → Place) → ℕ → ℕ → Option (List ℕ) → Place
place_by others number before None = at number before
place_by others number before (Some piece) =
    if nat_lt before (length piece) then at number before else others (before - length piece)

-- the place of the byte with this number of bytes before it in its joined line, which begins with the first line of the
-- source
abbrev pub place_from : ℕ → ℕ → ℕ → List ℕ → Place
place_from zero number before source = at number before
place_from (suc n) number before [] = at number before
place_from (suc n) number before (b ∷ bs) =
    place_by (λ left. place_from n (suc number) left (below (b ∷ bs))) number before (piece_of (line_in (b ∷ bs)))

-- the place in the source of the byte in this column of a joined line; this is the source from the line's beginning on
unfoldable pub place_in : List ℕ → ℕ → ℕ → Place
place_in source number column = place_from (length source) number (column - 1) source
