-- Kinds of bytes.
use Rattle.std.specs.Prelude.{ℕ, Bool, ◌&&◌, ◌||◌, ◌==◌, nat_le, if◌then◌else◌}

-- a space, a tab or a carriage return: these separate the words of a line
abbrev pub is_blank : ℕ → Bool
is_blank b = b == 32 || b == 9 || b == 13

-- a space, a tab, a line feed or a carriage return
abbrev pub is_white_space : ℕ → Bool
is_white_space b = b == 32 || b == 9 || b == 10 || b == 13

-- a digit, a letter or `_`
abbrev pub is_word_byte : ℕ → Bool
is_word_byte b = nat_le 48 b && nat_le b 57 || nat_le 65 b && nat_le b 90 || nat_le 97 b && nat_le b 122 || b == 95

-- the byte as it is shown: `?` if it isn't a printable ASCII character
abbrev pub printable : ℕ → ℕ
printable b = if nat_le 32 b && nat_le b 126 then b else 63
