-- Texts as people type them, and the exact text of each (this project's profile).
use Rattle.std.specs.Prelude.{ℕ, Bool, not, ◌+◌, ◌==◌, List, [], ◌∷◌, ◌++◌, length, Option, position, take, filter, unwrap_or, is_some, codes, bytes_eq, if◌then◌else◌}
use Rattle.std.specs.List.{slice_split, flat_map}
use Rattle.texts.specs.Lines.{lines_of, end_of, ended, is_word}
use Rattle.texts.specs.Bytes.Classes.{is_blank}

-- the place of a line's comment: its first `#`
abbrev pub comment_place : List ℕ → Option ℕ
comment_place line = position (λ b. b == 35) line

-- whether a line has a comment
unfoldable pub has_comment : List ℕ → Bool
has_comment line = is_some (comment_place line)

-- the line before its comment, or the whole line without one
abbrev pub uncommented : List ℕ → List ℕ
uncommented line = take (unwrap_or (comment_place line) (length line)) line

-- the words of a typed line
unfoldable pub typed_words : List ℕ → List (List ℕ)
typed_words line = filter is_word (slice_split is_blank (uncommented line))

-- `a -> b m` is short for `a send b m`
abbrev pub send_word : List ℕ → List ℕ
send_word word = if bytes_eq word (codes "->") then codes "send" else word

-- `b <- a` is short for `b receive a`
abbrev pub receive_word : List ℕ → List ℕ
receive_word word = if bytes_eq word (codes "<-") then codes "receive" else word

-- the words of a line with its short form written out
unfoldable pub written_out : List (List ℕ) → List (List ℕ)
written_out (a ∷ word ∷ b ∷ []) = a ∷ receive_word word ∷ b ∷ []
written_out (a ∷ word ∷ b ∷ m ∷ []) = a ∷ send_word word ∷ b ∷ m ∷ []
written_out words = words

abbrev pub behind_space : List ℕ → List ℕ
behind_space word = 32 ∷ word

-- a line of these words, if there is one: a space is between each two
abbrev pub line_of : List (List ℕ) → List ℕ
line_of [] = []
line_of (word ∷ words) = ended (word ++ flat_map behind_space words)

-- the exact line of a typed line: nothing, if it has no word
unfoldable pub exact_line : List ℕ → List ℕ
exact_line line = line_of (written_out (typed_words line))

-- the typed lines: the bytes after the last line feed are one too
abbrev pub typed_lines : List ℕ → List (List ℕ)
typed_lines typed = lines_of typed ++ end_of typed ∷ []

-- The exact text of a typed text.
unfoldable pub exact_text : List ℕ → List ℕ
exact_text typed = flat_map exact_line (typed_lines typed)

-- whether a line has a word, and so stays
unfoldable pub has_word : List ℕ → Bool
has_word line = not (length (typed_words line) == 0)

-- the number, if it counts
abbrev pub counted : Bool → ℕ → List ℕ
counted counts n = if counts then n ∷ [] else []

-- the numbers of the lines that stay; the first line has number n
abbrev pub staying_from : ℕ → List (List ℕ) → List ℕ
staying_from n [] = []
staying_from n (line ∷ lines) = counted (has_word line) n ++ staying_from (n + 1) lines

-- the numbers of the lines with a comment; the first line has number n
abbrev pub commented_from : ℕ → List (List ℕ) → List ℕ
commented_from n [] = []
commented_from n (line ∷ lines) = counted (has_comment line) n ++ commented_from (n + 1) lines
