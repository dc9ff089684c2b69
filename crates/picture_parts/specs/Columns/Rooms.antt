-- The free space beside a line, for the marks of its races and the numbers of its events (this project's profile).
use Rattle.std.specs.Prelude.{ℕ, ◌+◌, ◌-◌, ◌*◌, ◌/◌, ◌^◌, min, Bool, false, ◌&&◌, ◌==◌, nat_eq, nat_lt, List, length, fold, if◌then◌else◌}
use Rattle.std.specs.List.{list_any}
use Rattle.chart.specs.declared.event.Event.{Event}
use Rattle.chart.specs.Events.{partner_of}
use Rattle.chart.specs.Reports.{ReportView}
use Rattle.picture_parts.specs.declared.columns.columns.Column.{Column}
use Rattle.picture_parts.specs.declared.columns.columns.Room.{Room}
use Rattle.picture_parts.specs.Columns.TextWidths.{number_width}

-- the sum of two numbers of pixels, but at most the greatest number of 32 bits
abbrev pub plus : ℕ → ℕ → ℕ
plus a b = min (a + b) (2 ^ 32 - 1)

-- a receive of the instance may come before earlier events
abbrev pub has_races_on : ℕ → List ReportView → Bool
has_races_on p reports = list_any (λ report. (report.receive.instance == p) && nat_lt 0 (length report.earlier)) reports

-- the instance has one of these columns
abbrev pub has_column : ℕ → List Column → Bool
has_column p columns = list_any (λ c. c.instance == p) columns

-- the number of the events that are with an instance of one of these columns
abbrev pub events_with : List Column → List Event → ℕ
events_with columns line = fold (λ n m. if has_column (partner_of m) columns then plus n 1 else n) 0 line

-- brackets are on the right of a line if most of its arrows are on the left
abbrev pub is_mirrored : List Column → List Event → Bool
is_mirrored columns line = nat_lt (length line) (2 * events_with columns line)

-- the room that brackets need, and that of a number beside the line; w is the width of the line's greatest number
abbrev pub bracket_room : ℕ → ℕ
bracket_room w = 3 * w + 24

abbrev pub number_room : ℕ → ℕ
number_room w = w + 10

-- the room of a line, from whether it has races, whether numbers are wanted, and whether its brackets are on the right
unfoldable pub room_of : Bool → Bool → Bool → ℕ → Room
room_of races numbers mirrored w = record {
  left = if races then (if mirrored then number_room w else bracket_room w) else 7;
  right = if races then (if mirrored then bracket_room w else number_room w) else (if numbers then number_room w else 7);
  step = w / 2 + 2;
  mirrored = if races then mirrored else false;
}
