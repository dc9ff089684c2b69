-- The pieces of which a text is built (this project's own; entities are those of XML 1.0).
use Rattle.std.specs.Prelude.{ℕ, [], ◌∷◌, ◌&&◌, ◌==◌, nat_le, codes, decimal, if◌then◌else◌}
use Rattle.std.specs.List.{flat_map}
use Rattle.chart.specs.Words.{Text}
use Rattle.texts.specs.declared.pieces.pieces.Piece.{Piece}
use Rattle.texts.specs.declared.pieces.pieces.Piece.TheVariants.{Bytes, Number, Escaped}

-- a byte, escaped: the reserved characters of XML become entities, and a byte that isn't printable ASCII becomes ?
abbrev pub escaped_byte : ℕ → Text
escaped_byte b =
    if b == 38 then codes "&amp;" else
    (if b == 60 then codes "&lt;" else
    (if b == 62 then codes "&gt;" else
    (if b == 34 then codes "&quot;" else
    (if b == 39 then codes "&#39;" else
    (if nat_le 32 b && nat_le b 126 then b ∷ [] else codes "?")))))

-- arbitrary bytes, escaped
abbrev pub escaped : Text → Text
escaped bytes = flat_map escaped_byte bytes

-- a piece as it is written
abbrev pub piece_text : Piece → Text
piece_text (Bytes bytes) = bytes.now
piece_text (Number n) = decimal n
piece_text (Escaped bytes) = escaped bytes.now
