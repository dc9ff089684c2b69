-- The meaning of the texts of a log for ShiViz (the log format of ShiViz, and that of GoVector). An event is
-- `HOST {CLOCK} EVENT` in one line, as in this project's exports, or EVENT is in the line above or below.
use Rattle.std.specs.Prelude.{ℕ, ◌==◌, ◌||◌, List, [], ◌∷◌, Option, None, Some, length, if◌then◌else◌}
use Rattle.texts.specs.Words.{stripped}
use Rattle.log_lines.specs.ClockLines.{clock_line, is_parser}
use Rattle.log_lines.specs.Events.{ClockedView, AClocked, Nothing, Other}
use Rattle.log_lines.specs.Reading.{ReadView, nothing_read}
use Rattle.log_lines.specs.Windows.{StepView, with_window_texts}
use Rattle.log_lines.specs.declared.range.LineRange.{LineRange}

-- the meaning of a line with a clock; if it has no event, the next line is its event
abbrev pub by_line : ClockedView → List ℕ → StepView
by_line c next =
    if length c.event == 0 then record { says = AClocked (record { host = c.host; clock = c.clock; event = next }); takes = 1 }
    else record { says = AClocked c; takes = 0 }

-- the meaning of a line without a clock: it is an event if the next line is a clock without one
abbrev pub by_next_at : List ℕ → Option ClockedView → StepView
by_next_at line None = record { says = Other; takes = 0 }
by_next_at line (Some c) =
    if length c.event == 0 then record { says = AClocked (record { host = c.host; clock = c.clock; event = line }); takes = 1 }
    else record { says = Other; takes = 0 }

abbrev pub by_next : List ℕ → List ℕ → StepView
by_next line next = by_next_at line (clock_line next)

abbrev pub with_next_at : List ℕ → List ℕ → Option ClockedView → StepView
with_next_at line next None = by_next line next
with_next_at line next (Some c) = by_line c next

-- the meaning of a line without the blanks at its ends, by the line after it
abbrev pub with_next : List ℕ → List ℕ → StepView
with_next line next =
    if length line == 0 || is_parser line then record { says = Nothing; takes = 0 }
    else with_next_at line next (clock_line line)

-- the first of these lines, or an empty one if there is none
abbrev pub first_line : List (List ℕ) → List ℕ
first_line [] = []
first_line (line ∷ lines) = stripped line

-- the meaning of the first of these lines
unfoldable pub shiviz_step : List (List ℕ) → StepView
shiviz_step [] = record { says = Nothing; takes = 0 }
shiviz_step (line ∷ lines) = with_next (stripped line) (first_line lines)

-- the result of reading the texts
unfoldable pub shiviz_read : LineRange → List (List ℕ) → ReadView
shiviz_read range texts = with_window_texts shiviz_step range 0 texts nothing_read
