-- What may begin each line of a chart's text, and which line has an event.
use Rattle.std.specs.Prelude.{ℕ, ◌+◌, ◌==◌, ◌||◌, ◌&&◌, Bool, true, false, List, [], ◌∷◌, codes, bytes_eq, if◌then◌else◌}
use Rattle.fault_places.specs.Spots.{first_of}
use Rattle.fault_places.specs.declared.want.Want.{Want}
use Rattle.fault_places.specs.declared.want.Want.TheVariants as wants
use Rattle.texts.specs.Lines.{words_of}

-- a coregion was opened, and has no receive yet
abbrev pub is_opened : Want → Bool
is_opened wants.OpenedEvent = true
is_opened _ = false

-- what may begin the line after one that begins with this word
unfoldable pub behind : Want → List ℕ → Want
behind want word =
    if bytes_eq word (codes "msc") || bytes_eq word (codes "endinstance;") then wants.InstanceOrEnd else (
    if bytes_eq word (codes "instance") || bytes_eq word (codes "endconcurrent;") then wants.Event else (
    if bytes_eq word (codes "concurrent;") then wants.OpenedEvent else (
    if bytes_eq word (codes "endmsc;") then wants.ChartEnd else (
    if bytes_eq word (codes "in") && is_opened want then wants.HeldEvent else want))))

-- what may begin the line after a line of a chart
abbrev pub want_behind : Want → List ℕ → Want
want_behind want line = behind want (first_of (words_of line))

-- what may begin the line after some lines of a chart
abbrev pub line_at : Want → List (List ℕ) → Want
line_at want [] = want
line_at want (line ∷ lines) = line_at (want_behind want line) lines

-- the first line, or the text after the last line feed
abbrev pub first_or : List ℕ → List (List ℕ) → List ℕ
first_or end [] = end
first_or end (line ∷ lines) = line

abbrev pub is_head : List ℕ → Bool
is_head line = bytes_eq (first_of (words_of line)) (codes "instance")

abbrev pub is_event : List ℕ → Bool
is_event line = bytes_eq (first_of (words_of line)) (codes "in") || bytes_eq (first_of (words_of line)) (codes "out")

-- The number of the line that has an event, the index-th on the line of the instance-th instance. The first of these
-- lines has this number. Above it are this number of first lines of instances, and after the last of these this number
-- of events.
abbrev pub event_from : ℕ → ℕ → ℕ → ℕ → ℕ → List (List ℕ) → ℕ
event_from instance index heads events number [] = number
event_from instance index heads events number (line ∷ lines) =
    if is_head line then event_from instance index (heads + 1) 0 (number + 1) lines else (
    if is_event line then (
    if heads == instance && events + 1 == index then number else event_from instance index heads (events + 1) (number + 1) lines
    ) else event_from instance index heads events (number + 1) lines)
