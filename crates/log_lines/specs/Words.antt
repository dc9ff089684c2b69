-- The words of a line.
use Rattle.std.specs.Prelude.{ℕ, List, filter}
use Rattle.std.specs.List.{slice_split}
use Rattle.texts.specs.Bytes.Classes.{is_blank}
use Rattle.texts.specs.Lines.{is_word}

-- the words of a line, which blanks separate
unfoldable pub words_of : List ℕ → List (List ℕ)
words_of line = filter is_word (slice_split is_blank line)
