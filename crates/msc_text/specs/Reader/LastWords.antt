-- The last word of a line in a chart's text: a semicolon follows it (a profile of the instance-oriented text of ITU-T
-- Z.120).
use Rattle.std.specs.Prelude.{ℕ, Bool, List, [], ◌∷◌, ◌++◌, bytes_eq}

-- a word and a semicolon
abbrev pub semi : List ℕ → List ℕ
semi word = word ++ 59 ∷ []

-- the second word is the first one and a semicolon
unfoldable pub is_last_word : List ℕ → List ℕ → Bool
is_last_word front word = bytes_eq word (semi front)
