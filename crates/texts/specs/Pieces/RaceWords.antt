-- The earlier events that a receive may come before, in words (this project's profile).
use Rattle.std.specs.Prelude.{ℕ, ◌+◌, ◌-◌, ◌==◌, List, [], ◌∷◌, ◌++◌, codes, decimal, if◌then◌else◌}
use Rattle.std.specs.List.{flat_map}
use Rattle.chart.specs.Words.{Text}
use Rattle.chart.specs.declared.ranges.EventRange.{EventRange}

-- the words after the number of events
unfoldable pub kind : ℕ → Text
kind n = if n == 1 then codes " earlier event: " else codes " earlier events: "

-- the number of earlier events, in words
unfoldable pub amount : ℕ → Text
amount n = decimal n ++ kind n

-- FIRST to LAST
unfoldable pub up_to : ℕ → ℕ → Text
up_to first last = decimal first ++ (codes " to " ++ decimal last)

-- the numbers of the events of a range
unfoldable pub range_text : EventRange → Text
range_text r = if r.count == 1 then decimal r.first.index else up_to r.first.index (r.first.index + (r.count - 1))

unfoldable pub comma : Text
comma = codes ", "

-- the same, after the numbers of another range
unfoldable pub next_range : EventRange → Text
next_range r = comma ++ range_text r

-- the numbers of the events of ranges
abbrev pub ranges_text : List EventRange → Text
ranges_text [] = []
ranges_text (r ∷ ranges) = range_text r ++ flat_map next_range ranges
