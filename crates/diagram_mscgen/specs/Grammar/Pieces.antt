-- The pieces of a text: blanks, comments, words, texts in quotation marks and signs.
use Rattle.std.specs.Prelude.{ℕ, ◌+◌, ◌==◌, Bool, ◌||◌, List, [], ◌∷◌, codes, length, drop, Option, None, Some, if◌then◌else◌}
use Rattle.diagram_mscgen.specs.Grammar.Lengths.{word_length, comment_length, closing}
use Rattle.texts.specs.Bytes.Classes.{is_white_space, is_word_byte}
use Rattle.texts.specs.Bytes.Lines.{line_length}
use Rattle.texts.specs.Bytes.Words.{begins}
use Rattle.diagram_mscgen.specs.Grammar.Signs.{sign_at}
use Rattle.diagram_mscgen.specs.declared.grammar.piece.Shape.{Shape}
use Rattle.diagram_mscgen.specs.declared.grammar.piece.Shape.TheVariants.{Gap, Word, Text, Unknown}
use Rattle.diagram_mscgen.specs.declared.grammar.piece.Piece.{Piece}

abbrev pub piece : Shape → ℕ → Piece
piece shape length = record { shape = shape; length = length }

-- a text in quotation marks, by the place of its second mark; without it, the rest of the text can't be read
abbrev pub text_by : ℕ → Option ℕ → Piece
text_by left None = piece Unknown (left + 1)
text_by left (Some place) = piece Text (place + 2)

-- a word, or a byte that begins nothing
abbrev pub word_or_unknown : ℕ → List ℕ → Piece
word_or_unknown b bs = if is_word_byte b then piece Word (word_length bs + 1) else piece Unknown 1

-- a sign, if there is one; so `x-` is a sign, and not a word
abbrev pub sign_or_word : Option Piece → ℕ → List ℕ → Piece
sign_or_word None b bs = word_or_unknown b bs
sign_or_word (Some sign) b bs = sign

-- the piece with which the bytes begin
unfoldable pub piece_at : List ℕ → Piece
piece_at [] = piece Gap 0
piece_at (b ∷ bs) =
    if is_white_space b then piece Gap 1 else (
    if b == 35 || begins (b ∷ bs) (codes "//") then piece Gap (line_length bs + 1) else (
    if begins (b ∷ bs) (codes "/*") then piece Gap (comment_length (drop 1 bs) + 2) else (
    if b == 34 then text_by (length bs) (closing 34 bs) else sign_or_word (sign_at (b ∷ bs)) b bs)))
