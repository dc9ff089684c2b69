-- Skipped lines of a text: before anything is read, their bytes become blanks, except for line feeds.
use Rattle.std.specs.Prelude.{ℕ, ◌+◌, Bool, not, ◌&&◌, ◌==◌, nat_le, nat_lt, List, [], ◌∷◌, if◌then◌else◌}
use Rattle.std.specs.List.{list_any}
use Rattle.diagram_import.specs.declared.skipping.Skip.{Skip}

-- the line with this number is skipped
abbrev pub is_skipped : List Skip → ℕ → Bool
is_skipped skips line = list_any (λ s. nat_le s.first line && nat_le line s.last) skips

-- the byte as it is read in this line
abbrev pub read_byte : List Skip → ℕ → ℕ → ℕ
read_byte skips line b = if b == 10 then b else (if is_skipped skips line then 32 else b)

-- the number of the line after a byte: a line feed ends a line
abbrev pub line_behind : ℕ → ℕ → ℕ
line_behind line b = if b == 10 then line + 1 else line

-- the bytes from this line on, with blanks for those of skipped lines
unfoldable pub blanked_from : List Skip → ℕ → List ℕ → List ℕ
blanked_from skips line [] = []
blanked_from skips line (b ∷ bytes) = read_byte skips line b ∷ blanked_from skips (line_behind line b) bytes

-- the number of lines, if `count` of them ended before these bytes, and one more has begun or not; the last one needs
-- no line feed
unfoldable pub lines_from : ℕ → Bool → List ℕ → ℕ
lines_from count begun [] = if begun then count + 1 else count
lines_from count begun (b ∷ bytes) = lines_from (line_behind count b) (not (b == 10)) bytes

-- a line to skip doesn't exist
abbrev pub is_beyond : List Skip → ℕ → Bool
is_beyond skips count = list_any (λ s. nat_lt count s.last) skips
