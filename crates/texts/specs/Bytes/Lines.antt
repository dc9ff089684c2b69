-- The ends of a text's lines.
use Rattle.std.specs.Prelude.{ℕ, ◌==◌, List, length, position, unwrap_or}

-- the number of bytes before the line feed that ends the line, or before the text's end
unfoldable pub line_length : List ℕ → ℕ
line_length bytes = unwrap_or (position (λ b. b == 10) bytes) (length bytes)
