-- The meaning of the texts of an application's log.
use Rattle.std.specs.Prelude.{ℕ, List}
use Rattle.log_lines.specs.Events.{LineView}
use Rattle.log_lines.specs.Plain.{line_by}
use Rattle.log_lines.specs.Reading.{ReadView, nothing_read, with_texts}
use Rattle.log_lines.specs.Words.{words_of}
use Rattle.log_lines.specs.declared.range.LineRange.{LineRange}

-- the meaning of a line
unfoldable pub plain_line : List ℕ → LineView
plain_line line = line_by (words_of line)

-- the result of reading the texts
unfoldable pub plain_read : LineRange → List (List ℕ) → ReadView
plain_read range texts = with_texts plain_line range 0 texts nothing_read
