-- Which events of a chart are drawn, and in which columns and rows (this project's profile).
use Rattle.std.specs.Prelude.{ℕ, ◌+◌, ◌-◌, ◌^◌, min, Bool, false, ◌&&◌, ◌||◌, ◌==◌, nat_le, is_some, List, [], ◌∷◌, Option, None, Some, position, slice_get, if◌then◌else◌}
use Rattle.chart.specs.declared.instance.EventNo.{EventNo}
use Rattle.closure.specs.Faults.{place_of}
use Rattle.chart_layout.specs.declared.row.Row.{Row}
use Rattle.chart_layout.specs.declared.row.Row.TheVariants as variants
use Rattle.chart_layout.specs.Ends.{end_of as other_end}
use Rattle.chart_layout.specs.Layouts.{row_of}
use Rattle.picture_parts.specs.declared.columns.columns.Column.{Column}

-- the data by which events are chosen
pub record ChoiceView : Type 0 where
  -- the rows of the layout, from the top
  pub rows : List Row
  -- for each event of each line, the other end of its message, if it has one
  pub ends : List (List (Option EventNo))
  -- the columns, from the left
  pub columns : List Column
  -- the numbers of the first and of the last chosen event of each line, from 1
  pub first : ℕ
  pub last : ℕ
  -- the numbers of the first and of the last row with chosen events, from 0
  pub top : ℕ
  pub bottom : ℕ

abbrev pub column_at : List Column → Option ℕ → Option Column
column_at columns None = None
column_at columns (Some k) = slice_get columns k

-- the column of an instance, if it has one
abbrev pub column_of : ChoiceView → ℕ → Option Column
column_of v p = column_at v.columns (position (λ c. c.instance == p) v.columns)

-- the other end of an event's message, if it has one
abbrev pub end_of : ChoiceView → EventNo → Option EventNo
end_of v e = other_end v.ends e

abbrev pub is_between : ℕ → ℕ → ℕ → Bool
is_between first last n = nat_le first n && nat_le n last

abbrev pub is_row_chosen : ChoiceView → Option ℕ → Bool
is_row_chosen v None = false
is_row_chosen v (Some row) = is_between v.top v.bottom row

-- the event is chosen: its instance has a column, and its number and its row are within
abbrev pub is_chosen : ChoiceView → EventNo → Bool
is_chosen v e =
    is_some (column_of v e.instance) && is_between v.first v.last e.index && is_row_chosen v (row_of v.rows (place_of e))

abbrev pub is_chosen_end : ChoiceView → Option EventNo → Bool
is_chosen_end v None = false
is_chosen_end v (Some e) = is_chosen v e

-- the event is drawn if it has a column: it is chosen, or the other end of its message is. So no arrow between two
-- columns is cut
abbrev pub is_shown : ChoiceView → EventNo → Bool
is_shown v e = is_chosen v e || is_chosen_end v (end_of v e)

abbrev pub is_in_picture : ChoiceView → EventNo → Bool
is_in_picture v e = is_some (column_of v e.instance) && is_shown v e

-- an event of the row is drawn
abbrev pub is_row_in_picture : ChoiceView → Row → Bool
is_row_in_picture v (variants.Message s r) = is_in_picture v s || is_in_picture v r
is_row_in_picture v (variants.Event e) = is_in_picture v e

-- one more, but at most the greatest number of 32 bits
abbrev pub more : ℕ → ℕ
more n = min (n + 1) (2 ^ 32 - 1)

abbrev pub next_count : ChoiceView → ℕ → Row → ℕ
next_count v n row = if is_row_in_picture v row then more n else n

-- for each row the number of drawn rows above it, if n are drawn above the first
abbrev pub places_from : ChoiceView → ℕ → List Row → List ℕ
places_from v n [] = []
places_from v n (row ∷ rows) = n ∷ places_from v (next_count v n row) rows

-- the number of all drawn rows
abbrev pub count_from : ChoiceView → ℕ → List Row → ℕ
count_from v n [] = n
count_from v n (row ∷ rows) = count_from v (next_count v n row) rows
