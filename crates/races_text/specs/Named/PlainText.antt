-- The races of a receive as lines (this project's profile): one for each range of earlier events.
use Rattle.std.specs.Prelude.{ℕ, ◌+◌, ◌-◌, ◌==◌, List, ◌++◌, codes, decimal, if◌then◌else◌}
use Rattle.std.specs.List.{flat_map}
use Rattle.chart.specs.declared.event.Event.{Event}
use Rattle.chart.specs.declared.instance.EventNo.{EventNo}
use Rattle.chart.specs.declared.ranges.EventRange.{EventRange}
use Rattle.chart.specs.Events.{ith}
use Rattle.msc_text.specs.ChartText.{message_at}
use Rattle.texts.specs.Instances.{name_at}
use Rattle.races_text.specs.declared.named.words.Word.{Word}
use Rattle.races_text.specs.declared.named.words.Word.TheVariants.{Colon, MayCome, Comma, Dots, Close, End}
use Rattle.races_text.specs.Named.Words.{word_text, text_at}

-- the number of a range's last event
abbrev pub last_of : EventRange → ℕ
last_of r = r.first.index + (r.count - 1)

-- events FIRST to LAST, and an opening bracket
unfoldable pub numbers_text : ℕ → ℕ → List ℕ
numbers_text first last = codes "events " ++ (decimal first ++ (codes " to " ++ (decimal last ++ codes " (")))

-- the word between the first and the last of this number of messages: dots, if there are more than two
abbrev pub between : ℕ → Word
between n = if n == 2 then Comma else Dots

-- events FIRST to LAST (MESSAGE, .., MESSAGE)
unfoldable pub several_text : List Event → EventRange → List ℕ
several_text events r =
    numbers_text r.first.index (last_of r) ++ (message_at (ith events r.first.index)
    ++ (word_text (between r.count) ++ (message_at (ith events (last_of r)) ++ word_text Close)))

-- the events of a range: its single event, or its first and its last
abbrev pub range_text : List (List ℕ) → List Event → EventRange → List ℕ
range_text names events r =
    if r.count == 1 then text_at names r.first.index (ith events r.first.index) else several_text events r

-- INSTANCE: RECEIVE may come before RANGE
unfoldable pub race_text : List (List ℕ) → List Event → EventNo → EventRange → List ℕ
race_text names events receive r =
    name_at names receive.instance ++ (word_text Colon ++ (text_at names receive.index (ith events receive.index)
    ++ (word_text MayCome ++ range_text names events r)))

-- the same, as a line
unfoldable pub line_text : List (List ℕ) → List Event → EventNo → EventRange → List ℕ
line_text names events receive r = race_text names events receive r ++ word_text End

-- a line for each of these ranges
abbrev pub lines_text : List (List ℕ) → List Event → EventNo → List EventRange → List ℕ
lines_text names events receive ranges = flat_map (line_text names events receive) ranges
