-- Which numbers some events of an instance have, as marks that are read at once (this project's own).
use Rattle.std.specs.Prelude.{◌≡◌, ℕ, ◌<◌, ◌&&◌, ◌==◌, Bool, true, false, nat_lt, List, length, slice_index_or, slice_set, if◌then◌else◌}
use Rattle.std.specs.List.{list_any}
use Rattle.chart.specs.declared.instance.EventNo.{EventNo}

-- the event of this number of the instance's line
abbrev pub is_at : ℕ → ℕ → EventNo → Bool
is_at p i e = (e.instance == p) && (e.index == i)

-- the event's number is marked, if it is p's and has a place
abbrev pub with_mark : List Bool → ℕ → EventNo → List Bool
with_mark marks p event =
    if (event.instance == p) && nat_lt event.index (length marks) then slice_set marks event.index true else marks

-- marked are just the numbers of p's events in the list, of those that have a place
abbrev pub AreMarks : ℕ → List EventNo → List Bool → Type 0
AreMarks p events marks = (i : ℕ) → i < length marks → slice_index_or marks i false ≡ list_any (is_at p i) events
