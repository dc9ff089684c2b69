-- Blanks and the comments of all tools (the documentation of mscgen 0.20, PlantUML and Mermaid on comments).
use Rattle.std.specs.Prelude.{ℕ, zero, suc, ◌+◌, ◌==◌, ◌||◌, Bool, List, [], ◌∷◌, codes, length, drop, if◌then◌else◌}
use Rattle.texts.specs.Bytes.Classes.{is_white_space}
use Rattle.texts.specs.Bytes.Lines.{line_length}
use Rattle.texts.specs.Bytes.Words.{begins}

-- the number of bytes up to the first occurrence of these and with it, or of all bytes without one
abbrev pub length_to : List ℕ → List ℕ → ℕ
length_to end [] = 0
length_to end (b ∷ bs) = if begins (b ∷ bs) end then length end else suc (length_to end bs)

-- the length of a block with this beginning and this end, or up to the end of the text
unfoldable pub block_length : List ℕ → List ℕ → List ℕ → ℕ
block_length first end bytes = length first + length_to end (drop (length first) bytes)

-- a comment begins that extends to the end of its line
abbrev pub begins_line : List ℕ → Bool
begins_line bytes = begins bytes (codes "#") || begins bytes (codes "'") || begins bytes (codes "//") || begins bytes (codes "%%")

-- the length of the blank or the comment with which the bytes begin, or 0
unfoldable pub gap_length : List ℕ → ℕ
gap_length [] = 0
gap_length (b ∷ bs) =
    if is_white_space b then 1 else (
    if begins (b ∷ bs) (codes "/*") then block_length (codes "/*") (codes "*/") (b ∷ bs) else (
    if begins (b ∷ bs) (codes "/'") then block_length (codes "/'") (codes "'/") (b ∷ bs) else (
    if begins (b ∷ bs) (codes "%%{") then block_length (codes "%%{") (codes "}%%") (b ∷ bs) else (
    if begins_line (b ∷ bs) then line_length (b ∷ bs) else 0))))

-- the same for at most this many blanks and comments
abbrev pub gaps_from : ℕ → List ℕ → ℕ
gaps_from zero bytes = 0
gaps_from (suc n) bytes =
    if gap_length bytes == 0 then 0 else gap_length bytes + gaps_from n (drop (gap_length bytes) bytes)

-- the number of bytes of blanks and comments at the beginning of the text: each has at least one byte
unfoldable pub gaps_length : List ℕ → ℕ
gaps_length text = gaps_from (length text) text
