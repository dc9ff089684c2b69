-- What the lines of a log give by an expression. Which lines match and what their groups span is taken from the regex
-- crate.
use Rattle.std.specs.Prelude.{ℕ, zero, suc, ◌+◌, ◌-◌, ◌==◌, List, length, take, Option, None, Some, if◌then◌else◌}
use Rattle.std.specs.List.{join_with_byte}
use Rattle.texts.specs.Lines.{lines_of}
use Rattle.texts.specs.Words.{behind_blanks}
use Rattle.regex.specs.Patterns.{Re, Match, find, span}
use Rattle.regex.specs.Writes.{group_of}
use Rattle.log_lines.specs.Events.{LineView, Nothing, Other}
use Rattle.log_formats.specs.Patterns.Found.{located, HostEventView, host_event, found_by}
use Rattle.log_lines.specs.Reading.{ReadView, nothing_read, is_within}
use Rattle.log_lines.specs.Windows.{StepView, without_return, with_window_texts}
use Rattle.log_formats.specs.declared.patterns.groups.Groups.{Groups}
use Rattle.log_formats.specs.declared.patterns.groups.Groups.TheVariants as groups
use Rattle.log_lines.specs.declared.range.LineRange.{LineRange}

-- the first of these lines and more further ones, with the line feeds between them
abbrev pub window_of : ℕ → List (List ℕ) → List ℕ
window_of more lines = without_return (join_with_byte 10 (take (more + 1) lines))

-- a line that isn't read; a blank line gives nothing
abbrev pub unmatched : List ℕ → LineView
unmatched line = if length (behind_blanks line) == 0 then Nothing else Other

-- the first line, if no match begins in it, or if its match isn't read
abbrev pub alone : List ℕ → StepView
alone line = record { says = unmatched line; takes = 0 }

-- the line in which the byte at this place is, from 0: the number of lines that end before it
unfoldable pub line_at : List ℕ → ℕ → ℕ
line_at window place = length (lines_of (take place window))

-- what the first line gives and takes, if its match gives this and touches this number of further lines
abbrev pub read_as : List ℕ → LineView → ℕ → StepView
read_as first Other touched = alone first
read_as first says touched = record { says = says; takes = touched }

-- what a match gives and takes, if its groups have these spans and it ends here: it takes all lines up to that of its
-- last byte
abbrev pub match_step : Groups → List ℕ → List ℕ → (ℕ → Option (ℕ × ℕ)) → ℕ → StepView
match_step groups window first spans end = read_as first (found_by (located window spans) groups) (line_at window (end - 1))

-- what the first line gives, by the match that was found in it and the lines after it: the match counts only if it
-- begins in the first line
abbrev pub matched : Groups → List ℕ → List ℕ → Option Match → StepView
matched groups window first None = alone first
matched groups window first (Some m) =
    if line_at window (span m).0 == 0 then match_step groups window first (group_of m) (span m).1 else alone first

-- what a match gives of a host, with these bytes of its groups: only the first set of groups gives something
abbrev pub event_in : Groups → (ℕ → Option (List ℕ)) → Option HostEventView
event_in (groups.Event g) bytes = host_event bytes g
event_in (groups.Capture g) bytes = None
event_in (groups.Clock g) bytes = None

-- what the first line gives of a host, by the match that was found in it and the lines after it
abbrev pub event_matched : Groups → List ℕ → Option Match → Option HostEventView
event_matched groups window None = None
event_matched groups window (Some m) = if line_at window (span m).0 == 0 then event_in groups (located window (group_of m)) else None

-- what the first line gives by the expression, whose first match is searched in it and more further lines
unfoldable pub pattern_step : Groups → ℕ → Re → List (List ℕ) → StepView
pattern_step groups more pattern lines = matched groups (window_of more lines) (window_of 0 lines) (find pattern (window_of more lines) 0)

-- what it gives of a host
unfoldable pub pattern_event : Groups → ℕ → Re → List (List ℕ) → Option HostEventView
pattern_event groups more pattern lines = event_matched groups (window_of more lines) (find pattern (window_of more lines) 0)

-- what the line with this number gives of a host, the first of these, if the first taken lines belong to an earlier
-- match
abbrev pub event_at : (List (List ℕ) → Option HostEventView) → LineRange → ℕ → ℕ → List (List ℕ) → Option HostEventView
event_at events range n (suc taken) lines = None
event_at events range n zero lines = if is_within range n then events lines else None

-- what is read of the texts
unfoldable pub pattern_read : Groups → ℕ → Re → LineRange → List (List ℕ) → ReadView
pattern_read groups more pattern range texts = with_window_texts (pattern_step groups more pattern) range 0 texts nothing_read
