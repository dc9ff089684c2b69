-- A line of a log with a match of its expression that isn't read, as texts name it.
use Rattle.std.specs.Prelude.{ℕ, ◌++◌, List, [], map, take, Option, None, Some, codes, decimal}
use Rattle.log_formats.specs.Patterns.Unread.{UnreadView, Absent, Word, UnreadLineView}
use Rattle.texts.specs.Bytes.Classes.{printable}
use Rattle.log_text.specs.Faults.{group_word}
use Rattle.log_text.specs.Spots.{SpotView, spot}
use Rattle.log_text.specs.declared.unread.UnreadLine.{UnreadLine}
use Rattle.log_text.specs.declared.unread.UnreadLine.TheVariants as lines

-- a word as refusals show it: at most 40 bytes, with `?` for each that doesn't print
abbrev pub shown_word : List ℕ → List ℕ
shown_word word = map printable (take 40 word)

abbrev pub shown_why : UnreadView → UnreadView
shown_why (Absent group) = Absent group
shown_why (Word word) = Word (shown_word word)

-- a line and the reason, with the word as it is shown
abbrev pub shown_line : UnreadLineView → UnreadLineView
shown_line l = record { place = l.place; why = shown_why l.why }

-- the line and the reason, which a refusal has
abbrev pub line_of : UnreadLine → UnreadLineView
line_of (lines.Absent place group) = record { place = place; why = Absent group }
line_of (lines.Word place word) = record { place = place; why = Word word.items }

-- that a group takes no part in a line's match
unfoldable pub absent_line : SpotView → List ℕ → List ℕ
absent_line s word =
    s.front ++ (s.separator ++ (decimal s.line ++ (codes " matches the expression, but its group " ++ (word ++ codes " takes no part\n"))))

-- that a line's word for the direction is unknown
unfoldable pub word_line : SpotView → List ℕ → List ℕ
word_line s word = s.front ++ (s.separator ++ (decimal s.line ++ (codes " matches the expression, but its dir is \"" ++ (word ++ codes "\"\n"))))

-- the line about such a line. `files` has the names of several files, and is empty for one
abbrev pub unread_line_text : List (List ℕ) → UnreadLine → List ℕ
unread_line_text files (lines.Absent place group) = absent_line (spot files place) (group_word group)
unread_line_text files (lines.Word place word) = word_line (spot files place) word.items

-- the same, if there is such a line
abbrev pub unread_text : List (List ℕ) → Option UnreadLine → List ℕ
unread_text files None = []
unread_text files (Some line) = unread_line_text files line
