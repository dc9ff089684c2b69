-- Texts of messages and notes (Mermaid's documentation of sequence diagrams): they come after a colon.
use Rattle.std.specs.Prelude.{ℕ, suc, List, [], ◌∷◌, codes, take, drop, length, Option, None, Some, option_map, unwrap_or}
use Rattle.texts.specs.Words.{behind_blanks, behind_word, first_place, skip_word, stripped}

-- the text after `wrap:` or `nowrap:`
unfoldable pub behind_wrap : List ℕ → Option (List ℕ)
behind_wrap bytes = behind_word (codes "wrap:") (skip_word (codes "no") (skip_word (codes ":") (behind_blanks bytes)))

-- a text without the word about its wrapping, and without the blanks at its ends
unfoldable pub text_of : List ℕ → List ℕ
text_of bytes = stripped (unwrap_or (behind_wrap bytes) bytes)

abbrev pub before_place : List ℕ → Option ℕ → List ℕ
before_place bytes None = bytes
before_place bytes (Some place) = take place bytes

-- the text before the first colon
unfoldable pub before_colon : List ℕ → List ℕ
before_colon bytes = before_place bytes (first_place 58 bytes)

abbrev pub behind_place : List ℕ → Option ℕ → Option (List ℕ)
behind_place bytes None = None
behind_place bytes (Some place) = Some (drop (suc place) bytes)

-- the text after the first colon
unfoldable pub behind_colon : List ℕ → Option (List ℕ)
behind_colon bytes = behind_place bytes (first_place 58 bytes)

abbrev pub text_by : Option (List ℕ) → List ℕ
text_by None = []
text_by (Some rest) = text_of rest

-- the text after the first colon, or nothing without a colon
unfoldable pub text_in : List ℕ → List ℕ
text_in bytes = text_by (behind_colon bytes)
