-- The pieces of a text that are statements (Mermaid's documentation of its syntax: "Frontmatter", "Directives",
-- "Comments", and of accessibility options).
use Rattle.std.specs.Prelude.{◌≡◌, ℕ, zero, suc, ◌+◌, ◌-◌, ◌≤◌, Bool, false, not, ◌&&◌, ◌||◌, ◌==◌, nat_lt, List, [], ◌∷◌, ◌++◌, codes, length, drop, position, Option, None, Some, unwrap_or, bytes_eq, nat_eq, if◌then◌else◌}
use Rattle.std.specs.List.{starts_with}
use Rattle.diagram_statements.specs.Lines.{after, front_of, stripped_line}
use Rattle.diagram_statements.specs.Statements.{LineView, line_view}
use Rattle.texts.specs.Words.{behind_blanks, behind_word, place_of}
use Rattle.texts.specs.Bytes.Classes.{is_word_byte}
use Rattle.diagram_mermaid.specs.declared.piece.Block.{Block}
use Rattle.diagram_mermaid.specs.declared.piece.Block.TheVariants.{Directive, Description}
use Rattle.diagram_mermaid.specs.declared.piece.Opened.{Opened}
use Rattle.diagram_mermaid.specs.declared.piece.Opened.TheVariants as opening
use Rattle.diagram_mermaid.specs.declared.piece.Standing.{Standing}
use Rattle.diagram_mermaid.specs.declared.piece.Standing.TheVariants.{Above, Title, Body, Inside}

-- the bytes that end a block
abbrev pub end_of : Block → List ℕ
end_of Directive = codes "}%%"
end_of Description = codes "}"

abbrev pub described_by : List ℕ → Option (List ℕ) → Bool
described_by sign None = false
described_by sign (Some rest) = starts_with nat_eq (behind_blanks rest) sign

-- this word comes next, with this sign after it
unfoldable pub is_described : List ℕ → List ℕ → List ℕ → Bool
is_described word sign words = described_by sign (behind_word word words)

-- the block that begins here
unfoldable pub block_at : List ℕ → Option Block
block_at words =
    if starts_with nat_eq words (codes "%%{") then Some Directive else (
    if is_described (codes "accDescr") (codes "{") words then Some Description else None)

abbrev pub behind_by : Block → LineView → Option ℕ → Option LineView
behind_by block line None = None
behind_by block line (Some place) = Some (stripped_line (after (place + length (end_of block)) line))

-- the text after the end of a block
unfoldable pub behind_end : Block → LineView → Option LineView
behind_end block line = behind_by block line (place_of (end_of block) line.words)

-- the rest of a line after the blocks with which it begins, unless the line doesn't end one
pub data OpenedView : Type 0 where
  Waits : (block : Block) → OpenedView
  Rest : (line : LineView) → OpenedView

abbrev pub opened_view : Opened → OpenedView
opened_view (opening.Waits block) = Waits block
opened_view (opening.Left line) = Rest (line_view line)

abbrev pub end_by : (LineView → OpenedView) → Block → Option LineView → OpenedView
end_by others block None = Waits block
end_by others block (Some rest) = others rest

abbrev pub block_by : (LineView → OpenedView) → LineView → Option Block → OpenedView
block_by others line None = Rest line
block_by others line (Some block) = end_by others block (behind_end block line)

-- at most this many more blocks
abbrev pub behind_blocks_from : ℕ → LineView → OpenedView
behind_blocks_from zero line = Rest line
behind_blocks_from (suc n) line = block_by (behind_blocks_from n) line (block_at line.words)

unfoldable pub behind_blocks : LineView → OpenedView
behind_blocks line = behind_blocks_from (suc (length line.words)) line

-- the rest of a line has room for its columns
abbrev pub Room : Opened → ℕ → Type 0
Room (opening.Waits block) most = Unit {0}
Room (opening.Left line) most = line.column + length line.words.now ≤ most

-- a line is a comment or a description
unfoldable pub is_remark : List ℕ → Bool
is_remark words =
    starts_with nat_eq words (codes "%%") || is_described (codes "accTitle") (codes ":") words
    || is_described (codes "accDescr") (codes ":") words

-- the length of the word at the beginning of the bytes
unfoldable pub word_length : List ℕ → ℕ
word_length bytes = unwrap_or (position (λ b. not (is_word_byte b)) bytes) (length bytes)

-- the number of bytes of a character after its `#`: its number or its name, and `;`
unfoldable pub character_length : List ℕ → Option ℕ
character_length bytes =
    if nat_lt 0 (word_length bytes) && starts_with nat_eq (drop (word_length bytes) bytes) (codes ";")
    then Some (word_length bytes + 1) else None

-- the number of bytes after this one that still belong to a character, if the byte continues a statement; a semicolon
-- ends a statement, and `#` begins a comment
unfoldable pub next_within : ℕ → ℕ → List ℕ → Option ℕ
next_within within b bs =
    if nat_lt 0 within then Some (within - 1) else (
    if b == 35 then character_length bs else (
    if b == 59 then None else Some 0))

abbrev pub length_by : (ℕ → ℕ) → Option ℕ → ℕ
length_by others None = 0
length_by others (Some next) = suc (others next)

-- the number of bytes of a statement
abbrev pub piece_length : ℕ → List ℕ → ℕ
piece_length within [] = 0
piece_length within (b ∷ bs) = length_by (λ next. piece_length next bs) (next_within within b bs)

-- a piece that has words
abbrev pub listed : LineView → List LineView
listed piece = if length piece.words == 0 then [] else piece ∷ []

abbrev pub next_pieces : (LineView → List LineView) → LineView → List LineView
next_pieces others behind = if starts_with nat_eq behind.words (codes ";") then others (after 1 behind) else []

-- at most this many statements
abbrev pub pieces_from : ℕ → LineView → List LineView
pieces_from zero line = []
pieces_from (suc n) line =
    listed (front_of (piece_length 0 line.words) line)
    ++ next_pieces (pieces_from n) (after (piece_length 0 line.words) line)

-- the statements of a line
unfoldable pub pieces_of : LineView → List LineView
pieces_of line = pieces_from (suc (length line.words)) line

-- the statements of the rest of a line, and the reader's position after it
abbrev pub open_pieces : OpenedView → List LineView × Standing
open_pieces (Waits block) = ([], Inside block)
open_pieces (Rest line) = if is_remark line.words then ([], Body) else (pieces_of line, Body)

abbrev pub ended_by : Block → Option LineView → List LineView × Standing
ended_by block None = ([], Inside block)
ended_by block (Some rest) = open_pieces (behind_blocks rest)

-- a line that begins or ends the title block
abbrev pub is_rule : List ℕ → Bool
is_rule words = bytes_eq words (codes "---")

-- the statements of a line, and the reader's position after it
unfoldable pub stepped : Standing → LineView → List LineView × Standing
stepped Above line =
    if length line.words == 0 then ([], Above) else (
    if is_rule line.words then ([], Title) else open_pieces (behind_blocks line))
stepped Title line = if is_rule line.words then ([], Body) else ([], Title)
stepped Body line = open_pieces (behind_blocks line)
stepped (Inside block) line = ended_by block (behind_end block line)

-- the pieces and the position after a call are those of the step
abbrev pub Steps : List LineView → List LineView → Standing → List LineView × Standing → Type 0
Steps old new next step = (new ≡ old ++ step.0) × (next ≡ step.1)
