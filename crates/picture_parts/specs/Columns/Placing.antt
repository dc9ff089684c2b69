-- The places of a picture's columns: each is as far left as the labels allow that are drawn between it and those on its
-- left (this project's profile).
use Rattle.std.specs.Prelude.{ℕ, ◌+◌, ◌*◌, ◌/◌, min, max, Bool, true, false, ◌==◌, nat_eq, List, [], ◌∷◌, ◌++◌, length, fold, if◌then◌else◌}
use Rattle.std.specs.List.{list_any}
use Rattle.chart.specs.declared.event.Event.{Event}
use Rattle.chart.specs.Events.{partner_of, name_of}
use Rattle.chart.specs.Charts.{LineView, chart_lines}
use Rattle.chart.specs.Reports.{ReportView}
use Rattle.texts.specs.Instances.{name_at}
use Rattle.picture_parts.specs.declared.columns.columns.Column.{Column}
use Rattle.picture_parts.specs.declared.columns.columns.Room.{Room}
use Rattle.picture_parts.specs.Columns.TextWidths.{name_width, cut_width, number_width}
use Rattle.picture_parts.specs.Columns.Rooms.{plus, has_races_on, is_mirrored, room_of}

-- the data by which columns are placed
pub record PlanView : Type 0 where
  -- the names of the instances
  pub names : List (List ℕ)
  pub lines : List LineView
  pub reports : List ReportView
  -- the instances that have a column, from the left
  pub instances : List ℕ
  -- whether events have their numbers beside them
  pub numbers : Bool

-- the greater of n and the width of an event's label, if its message is with q; otherwise n
abbrev pub wider : Bool → ℕ → ℕ → Event → ℕ
wider near q n m = if partner_of m == q then max n (name_width near (name_of m)) else n

-- the greatest width of a label of a line's messages with q, but at least n
abbrev pub widest_with : Bool → ℕ → ℕ → List Event → ℕ
widest_with near q n line = fold (wider near q) n line

-- the greatest width of a label between two instances
abbrev pub between : PlanView → Bool → ℕ → ℕ → ℕ
between plan near p q =
    widest_with near p (widest_with near q 0 (chart_lines plan.lines p)) (chart_lines plan.lines q)

-- the greater of n and the width of an event's label, if its message is cut: the other instance has no column
abbrev pub wider_cut : PlanView → ℕ → Event → ℕ
wider_cut plan n m =
    if list_any (nat_eq (partner_of m)) plan.instances then n
    else max n (cut_width (name_of m) (name_at plan.names (partner_of m)))

abbrev pub widest_cut : PlanView → ℕ → ℕ
widest_cut plan p = fold (wider_cut plan) 0 (chart_lines plan.lines p)

-- half of the width of an instance's head
abbrev pub head_half : PlanView → ℕ → ℕ
head_half plan p = name_width true (name_at plan.names p) / 2 + 6

-- the distance that labels need between the line of a column and that of q, which has this room
abbrev pub label_distance : PlanView → Bool → Column → ℕ → Room → ℕ
label_distance plan near c q room = plus (plus c.room.right room.left) (between plan near c.instance q)

-- the distance that heads and labels of cut messages need between neighbours
abbrev pub near_distance : PlanView → Column → ℕ → Room → ℕ
near_distance plan c q room =
    max (head_half plan c.instance + head_half plan q + 8)
    (plus (plus c.room.right room.left) (widest_cut plan c.instance))

-- the least distance of the line of q from that of a column on its left, which is near if it is q's neighbour
abbrev pub distance : PlanView → Bool → Column → ℕ → Room → ℕ
distance plan near c q room =
    if near then max (label_distance plan true c q room) (near_distance plan c q room)
    else label_distance plan false c q room

-- the room of q's line, on the right of these columns
abbrev pub room_beside : PlanView → List Column → ℕ → Room
room_beside plan columns q =
    room_of (has_races_on q plan.reports) plan.numbers (is_mirrored columns (chart_lines plan.lines q))
    (number_width (length (chart_lines plan.lines q)))

-- the leftmost place of q's line on the right of these columns
abbrev pub least : PlanView → List Column → ℕ → Room → ℕ
least plan columns q room =
    fold (λ x c. max x (plus c.x (distance plan (c.number == length columns) c q room)))
    (plus (max (head_half plan q) room.left) 16) columns

-- the column of q, on the right of these
abbrev pub next_column : PlanView → List Column → ℕ → Column
next_column plan columns q = record {
  instance = q;
  number = length columns + 1;
  x = least plan columns q (room_beside plan columns q);
  room = room_beside plan columns q;
}

-- these columns, and on their right those of the instances
abbrev pub columns_from : PlanView → List Column → List ℕ → List Column
columns_from plan columns [] = columns
columns_from plan columns (q ∷ instances) = columns_from plan (columns ++ next_column plan columns q ∷ []) instances

-- all columns
abbrev pub columns_of : PlanView → List Column
columns_of plan = columns_from plan [] plan.instances

-- the right end of a column: that of its head, or of the labels of cut messages beside it
abbrev pub edge : PlanView → Column → ℕ
edge plan c = plus c.x (max (head_half plan c.instance) (plus c.room.right (widest_cut plan c.instance)))

-- the width of a picture with these columns and a title of this number of bytes; its legend takes 400 pixels
abbrev pub width_of : PlanView → List Column → ℕ → ℕ
width_of plan columns title =
    plus (max (fold (λ n c. max n (edge plan c)) 400 columns) (7 * min title 4096)) 16
