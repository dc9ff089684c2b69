-- The rows of a picture as text: arrows with their labels, and the numbers of events (this project's profile, after the
-- graphical form of ITU-T Z.120).
use Rattle.std.specs.Prelude.{ℕ, ◌+◌, ◌-◌, Bool, true, false, ◌==◌, is_some, nat_lt, List, [], ◌++◌, Option, None, Some, codes, if◌then◌else◌}
use Rattle.chart.specs.declared.event.Event.{Event}
use Rattle.chart.specs.declared.event.Event.TheVariants.{Send, Receive}
use Rattle.chart.specs.declared.instance.EventNo.{EventNo}
use Rattle.chart.specs.Events.{name_of}
use Rattle.chart_layout.specs.declared.row.Row.{Row}
use Rattle.chart_layout.specs.declared.row.Row.TheVariants as variants
use Rattle.texts.specs.Instances.{name_at}
use Rattle.pictures.specs.declared.labels.Side.{Side}
use Rattle.pictures.specs.declared.labels.Side.TheVariants.{Receiver, Sender}
use Rattle.picture_parts.specs.declared.elements.spot.Spot.{Spot}
use Rattle.pictures.specs.declared.spots.Cell.{Cell}
use Rattle.picture_parts.specs.declared.columns.columns.Column.{Column}
use Rattle.picture_parts.specs.Columns.TextWidths.{name_width}
use Rattle.picture_parts.specs.Elements.Elements.{arrow, ring, label, label_start, label_end, number_text, point_start, group_end}
use Rattle.pictures.specs.Pictures.{PictureView, column_of, cell_of, end_of, event_of}
use Rattle.pictures.specs.Spots.{on_line, are_near, label_x, aside, cut_spot, height, number_spot}

-- the name of an event's message, if there is such an event
abbrev pub name_in : Option Event → List ℕ
name_in None = []
name_in (Some m) = name_of m

abbrev pub message_name : PictureView → EventNo → List ℕ
message_name v e = name_in (event_of v e)

-- the word before the name of the instance on the other side of a cut message
unfoldable pub side_text : Side → List ℕ
side_text Receiver = codes " to "
side_text Sender = codes " from "

-- the classes of an event's number: the number ends or begins at its spot
abbrev pub number_class : Cell → List ℕ
number_class cell = if cell.column.room.mirrored then codes "e" else codes "n"

-- the number of an event, if the picture has numbers
abbrev pub number_at : PictureView → EventNo → Cell → List ℕ
number_at v e cell = if v.numbers then number_text (number_class cell) (number_spot cell) e.index else []

-- the group of an event
unfoldable pub point : PictureView → EventNo → Cell → List ℕ
point v e cell = point_start e.instance e.index (on_line cell) ++ (number_at v e cell ++ group_end)

-- the label of a message with this name
abbrev pub label_of : List ℕ → Bool → Cell → Column → List ℕ
label_of name level from to =
    label (are_near from.column to) name (label_x level from.column to (name_width (are_near from.column to) name))
    (height from.place)

-- the label of an event's message, from the cell to a column
abbrev pub event_label : PictureView → EventNo → Bool → Cell → Column → List ℕ
event_label v e level from to = label_of (message_name v e) level from to

-- the label of a cut message, with the name of the instance on its other side; a message is cut if this instance has no
-- column
unfoldable pub cut_label : PictureView → EventNo → Side → ℕ → Spot → List ℕ
cut_label v e side other a = label_start a ++ (message_name v e ++ (side_text side ++ (name_at v.names other
    ++ label_end)))

-- a send whose message is cut
unfoldable pub leaving : PictureView → EventNo → ℕ → Cell → List ℕ
leaving v e to cell = arrow (on_line cell) (aside cell) ++ (cut_label v e Receiver to (cut_spot cell) ++ point v e cell)

-- a receive whose message is cut
unfoldable pub coming : PictureView → EventNo → ℕ → Cell → List ℕ
coming v e from cell = arrow (aside cell) (on_line cell) ++ (cut_label v e Sender from (cut_spot cell) ++ point v e cell)

-- the arrow of a message from its send to its receive, with its label
unfoldable pub message : PictureView → EventNo → Cell → Cell → List ℕ
message v e a b = arrow (on_line a) (on_line b) ++ event_label v e (a.place == b.place) a b.column

-- the spots of the arrow's tip of a waiting message, and of the circle beside it, on the sender's side of the column's
-- room
abbrev pub waiting_ends : Cell → Column → Spot × Spot
waiting_ends cell column =
    if nat_lt cell.column.x column.x
    then (
      record { x = column.x - (column.room.left + 8); y = height cell.place },
      record { x = column.x - (column.room.left + 4); y = height cell.place },
    )
    else (
      record { x = column.x + column.room.right + 8; y = height cell.place },
      record { x = column.x + column.room.right + 4; y = height cell.place },
    )

unfoldable pub toward : Cell → Column → List ℕ
toward cell column = arrow (on_line cell) (waiting_ends cell column).0 ++ ring (waiting_ends cell column).1

-- a send whose message waits for the instance of a column
unfoldable pub waiting : PictureView → EventNo → Cell → Column → List ℕ
waiting v e cell column = toward cell column ++ (event_label v e true cell column ++ point v e cell)

-- both ends of a message
unfoldable pub both : PictureView → EventNo → EventNo → Cell → Cell → List ℕ
both v s r a b = message v s a b ++ (point v s a ++ point v r b)

-- a message with a level arrow, or the end of it that is drawn
abbrev pub level : PictureView → EventNo → EventNo → Option Cell → Option Cell → List ℕ
level v s r None None = []
level v s r None (Some b) = coming v r s.instance b
level v s r (Some a) None = leaving v s r.instance a
level v s r (Some a) (Some b) = both v s r a b

-- a send above its receive, with the arrow down to it
unfoldable pub slanted : PictureView → EventNo → Cell → Cell → List ℕ
slanted v e a b = message v e a b ++ point v e a

-- a send to an instance, whose message is received there
abbrev pub sent_to : PictureView → EventNo → ℕ → Cell → Option Cell → List ℕ
sent_to v e to a None = leaving v e to a
sent_to v e to a (Some b) = slanted v e a b

-- a send to an instance, whose message waits
abbrev pub sent_off : PictureView → EventNo → ℕ → Cell → Option Column → List ℕ
sent_off v e to a None = leaving v e to a
sent_off v e to a (Some column) = waiting v e a column

-- a send that is alone in its row
abbrev pub sent : PictureView → EventNo → ℕ → Cell → Option EventNo → List ℕ
sent v e to a None = sent_off v e to a (column_of v to)
sent v e to a (Some r) = sent_to v e to a (cell_of v r)

-- the other end is an event that is drawn
abbrev pub is_end_in_picture : PictureView → Option EventNo → Bool
is_end_in_picture v None = false
is_end_in_picture v (Some e) = is_some (cell_of v e)

abbrev pub has_end : PictureView → EventNo → Bool
has_end v e = is_end_in_picture v (end_of v e)

-- a receive that is alone in its row; its arrow, if it isn't cut, was drawn with its send
abbrev pub received : PictureView → EventNo → ℕ → Cell → List ℕ
received v e from b = if has_end v e then point v e b else coming v e from b

-- an event that is alone in its row
abbrev pub alone : PictureView → EventNo → Option Cell → Option Event → List ℕ
alone v e None m = []
alone v e (Some cell) None = []
alone v e (Some cell) (Some (Send to name)) = sent v e to cell (end_of v e)
alone v e (Some cell) (Some (Receive from name region)) = received v e from cell

-- a row
abbrev pub row_text : PictureView → Row → List ℕ
row_text v (variants.Message s r) = level v s r (cell_of v s) (cell_of v r)
row_text v (variants.Event e) = alone v e (cell_of v e) (event_of v e)
