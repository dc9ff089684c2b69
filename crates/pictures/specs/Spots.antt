-- The positions on a picture, in pixels from its upper left corner (this project's profile).
use Rattle.std.specs.Prelude.{ℕ, ◌+◌, ◌-◌, ◌*◌, ◌/◌, Bool, ◌||◌, ◌==◌, nat_lt, if◌then◌else◌}
use Rattle.picture_parts.specs.declared.columns.columns.Column.{Column}
use Rattle.picture_parts.specs.declared.elements.spot.Spot.{Spot}
use Rattle.pictures.specs.declared.spots.Cell.{Cell}

-- the y coordinate of the arrows of a row, with `place` rows above it
abbrev pub height : ℕ → ℕ
height place = place * 24 + 84

-- the spot at which the cell's event meets its lifeline
abbrev pub on_line : Cell → Spot
on_line cell = record { x = cell.column.x; y = height cell.place }

-- the columns are neighbours
abbrev pub are_near : Column → Column → Bool
are_near a b = (a.number - b.number == 1) || (b.number - a.number == 1)

-- the middle between the rooms of two lifelines
abbrev pub amid : Column → Column → ℕ
amid left right = (left.x + left.room.right + (right.x - right.room.left)) / 2

abbrev pub between : Column → Column → ℕ
between a b = if nat_lt a.x b.x then amid a b else amid b a

-- the middle of a label of this width beside the room of a lifeline, on the side of another one
abbrev pub beside : Column → Column → ℕ → ℕ
beside a b width = if nat_lt a.x b.x then a.x + a.room.right + (width / 2) else a.x - (a.room.left + (width / 2))

-- the middle of a label: between the lifelines if its arrow is level, and otherwise beside the sender
abbrev pub label_x : Bool → Column → Column → ℕ → ℕ
label_x level from to width = if level then between from to else beside from to width

-- the spot of the number of the cell's event
abbrev pub number_spot : Cell → Spot
number_spot cell = record {
  x = if cell.column.room.mirrored then cell.column.x - 7 else cell.column.x + 7;
  y = height cell.place + 11;
}

-- the spots of the outer end of a cut message's arrow, and of the beginning of its label
abbrev pub aside : Cell → Spot
aside cell = record { x = cell.column.x + cell.column.room.right + 17; y = height cell.place }

abbrev pub cut_spot : Cell → Spot
cut_spot cell = record { x = cell.column.x + cell.column.room.right + 21; y = cell.place * 24 + 80 }
