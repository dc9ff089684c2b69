-- Case-insensitive words, and the beginnings of bytes.
use Rattle.std.specs.Prelude.{ℕ, Bool, List, map, bytes_eq, nat_eq}
use Rattle.std.specs.List.{starts_with}
use Rattle.std.specs.Char.{to_ascii_lowercase}

-- the word is the known one; ASCII case is ignored
unfoldable pub is_spelled : List ℕ → List ℕ → Bool
is_spelled known word = bytes_eq (map to_ascii_lowercase word) (map to_ascii_lowercase known)

-- the bytes begin with the known ones
abbrev pub begins : List ℕ → List ℕ → Bool
begins bytes known = starts_with nat_eq bytes known
