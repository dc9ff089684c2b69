-- The marks of races as text (this project's profile): a dot at each receive, and a bracket for each range of earlier
-- events that the receive may come before.
use Rattle.std.specs.Prelude.{ℕ, ◌+◌, ◌-◌, ◌*◌, ◌%◌, ◌^◌, ◌==◌, Bool, false, nat_lt, nat_le, is_some, min, max, List, [], ◌∷◌, ◌++◌, length, Option, None, Some, slice_get, codes, if◌then◌else◌}
use Rattle.std.specs.List.{flat_map}
use Rattle.chart.specs.declared.instance.EventNo.{EventNo}
use Rattle.chart.specs.declared.ranges.EventRange.{EventRange}
use Rattle.chart.specs.Ranges.{ranges_of}
use Rattle.chart.specs.Reports.{ReportView}
use Rattle.texts.specs.Pieces.RaceWords.{amount, range_text, ranges_text}
use Rattle.picture_parts.specs.declared.elements.spot.Spot.{Spot}
use Rattle.pictures.specs.declared.spots.Cell.{Cell}
use Rattle.picture_parts.specs.declared.columns.columns.Column.{Column}
use Rattle.picture_parts.specs.Elements.Elements.{dot_start, dot_end, bracket_name, bracket_outline, bracket_end, number_text, group_end}
use Rattle.pictures.specs.Pictures.{PictureView, column_of, row_at, cell_of, end_of}
use Rattle.pictures.specs.Spots.{height, number_spot}

-- the other column is on the left of the column
abbrev pub is_left : Option Column → Column → Bool
is_left None column = false
is_left (Some other) column = nat_lt other.x column.x

-- the column of an event, if there is one
abbrev pub column_from : PictureView → Option EventNo → Option Column
column_from v None = None
column_from v (Some e) = column_of v e.instance

-- the message of a receive comes from the left
abbrev pub from_left : PictureView → EventNo → Column → Bool
from_left v e column = is_left (column_from v (end_of v e)) column

-- the spot of a receive's dot: on the side of the lifeline that is opposite to the arrow's head
abbrev pub dot_spot : Bool → Cell → Spot
dot_spot left cell = record {
  x = if left then cell.column.x + 5 else cell.column.x - 5;
  y = height cell.place;
}

-- the dot of a receive that may come before n earlier events, in these ranges
unfoldable pub dot : EventNo → Spot → ℕ → List EventRange → List ℕ
dot e a n ranges = dot_start e.instance e.index a ++ (amount n ++ (ranges_text ranges ++ dot_end))

-- the number beside a dot, unless all events have their numbers
abbrev pub race_class : Cell → List ℕ
race_class cell = if cell.column.room.mirrored then codes "e k" else codes "n k"

abbrev pub race_number : PictureView → EventNo → Cell → List ℕ
race_number v e cell = if v.numbers then [] else number_text (race_class cell) (number_spot cell) e.index

-- the distance of a receive's brackets from their lifeline; neighbouring receives have different distances
abbrev pub slot_offset : ℕ → ℕ → ℕ
slot_offset step slot =
    if slot == 0 then 13 else
    (if slot == 1 then step + 13 else
    (if slot == 2 then 2 * step + 13 else
    (if slot == 3 then 3 * step + 13 else 4 * step + 13)))

abbrev pub offset : Column → ℕ → ℕ
offset column receive = slot_offset column.room.step (receive % 5)

abbrev pub bracket_x : Column → ℕ → ℕ
bracket_x column receive =
    if column.room.mirrored then column.x + offset column receive else column.x - offset column receive

-- the x coordinate of its ends
abbrev pub inner_x : Column → ℕ → ℕ
inner_x column receive =
    if column.room.mirrored then (column.x + offset column receive) - 3 else column.x - (offset column receive - 3)

-- the y coordinate of its upper corner, with `place` rows above it: not on the arrow, and at one of two heights, to
-- keep numbers apart
abbrev pub upper_y : ℕ → ℕ → ℕ
upper_y receive place = height place - (7 * ((receive % 5) % 2) + 8)

-- the bracket of a range between two rows, with the number of its receive at its top; `upper` and `lower` are how many
-- rows are drawn above each
unfoldable pub bracket_between : EventNo → EventRange → Column → ℕ → ℕ → List ℕ
bracket_between e r c upper lower =
    bracket_name e.instance e.index r.first.index
    ++ (bracket_outline (record { x = bracket_x c e.index; y = upper_y e.index upper }) (height lower + 7)
    (inner_x c e.index) e.index ++ (amount r.count ++ (range_text r ++ (bracket_end
    ++ number_text (codes "k") (record { x = bracket_x c e.index; y = upper_y e.index upper - 3 }) e.index))))

-- the first event of a range, or the first chosen event if that is later; and the last event of a range, or the last
-- chosen event if that is earlier
abbrev pub first_in_picture : PictureView → EventRange → EventNo
first_in_picture v r = record { instance = r.first.instance; index = max r.first.index v.choice.first }

abbrev pub last_in_picture : PictureView → EventRange → EventNo
last_in_picture v r = record { instance = r.first.instance; index = min (r.first.index + (r.count - 1)) v.choice.last }

-- the same, if both numbers of rows are known
abbrev pub bracket_places : EventNo → EventRange → Column → Option ℕ → Option ℕ → List ℕ
bracket_places e r c None lower = []
bracket_places e r c (Some upper) None = []
bracket_places e r c (Some upper) (Some lower) = bracket_between e r c upper lower

-- the bracket between two rows of the layout
abbrev pub bracket_rows : PictureView → EventNo → EventRange → Column → ℕ → ℕ → List ℕ
bracket_rows v e r c upper lower =
    if nat_le upper lower then bracket_places e r c (slice_get v.places upper) (slice_get v.places lower) else []

-- the same, for the chosen rows only
abbrev pub bracket_from : PictureView → EventNo → EventRange → Option Column → Option ℕ → Option ℕ → List ℕ
bracket_from v e r None upper lower = []
bracket_from v e r (Some c) None lower = []
bracket_from v e r (Some c) (Some upper) None = []
bracket_from v e r (Some c) (Some upper) (Some lower) =
    bracket_rows v e r c (max upper v.choice.top) (min lower v.choice.bottom)

-- the bracket of the chosen part of a range of earlier events
abbrev pub bracket_text : PictureView → EventNo → EventRange → List ℕ
bracket_text v e r =
    bracket_from v e r (column_of v r.first.instance) (row_at v (first_in_picture v r)) (row_at v (last_in_picture v r))

-- the number of events, at most the greatest number of 64 bits
abbrev pub counted : List EventNo → ℕ
counted events = min (length events) (2 ^ 64 - 1)

-- the marks of a receive that is drawn, and may come before these events
unfoldable pub marked : PictureView → EventNo → Cell → List EventNo → List ℕ
marked v e cell events =
    dot e (dot_spot (from_left v e cell.column) cell) (counted events) (ranges_of events)
    ++ (race_number v e cell ++ (flat_map (bracket_text v e) (ranges_of events) ++ group_end))

abbrev pub marked_at : PictureView → ReportView → Option Cell → List ℕ
marked_at v report None = []
marked_at v report (Some cell) = marked v report.receive cell report.earlier

-- the marks of a receive
abbrev pub marks : PictureView → ReportView → List ℕ
marks v report = if length report.earlier == 0 then [] else marked_at v report (cell_of v report.receive)
