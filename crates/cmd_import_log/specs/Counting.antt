-- The number of lines that are read of a log's texts.
use Rattle.std.specs.Prelude.{ℕ, ◌+◌, ◌-◌, ◌==◌, List, [], ◌∷◌, length, min, if◌then◌else◌}
use Rattle.log_lines.specs.declared.range.LineRange.{LineRange}
use Rattle.texts.specs.Lines.{lines_of, end_of}

-- the number of lines of a text: the text after the last line feed is a line too, unless it is empty
unfoldable pub count_of_lines : List ℕ → ℕ
count_of_lines text = length (lines_of text) + (if length (end_of text) == 0 then 0 else 1)

-- the number of these lines that are in a range, which counts from 1
unfoldable pub lines_within : LineRange → List ℕ → ℕ
lines_within range text = min (count_of_lines text) range.last - (range.first - 1)

-- the same for all texts
abbrev pub lines_read : LineRange → List (List ℕ) → ℕ
lines_read range [] = 0
lines_read range (text ∷ texts) = lines_within range text + lines_read range texts
