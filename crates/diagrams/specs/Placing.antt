-- Items at their places. None begins above an earlier one of the text, and no arrow ends above its beginning. Each is
-- at participants of the diagram, an arrow at two different ones. No chart is possible with any other item.
use Rattle.std.specs.Prelude.{ℕ, Bool, not, ◌&&◌, ◌==◌, List, [], ◌∷◌, Option, None, Some, nat_lt, if◌then◌else◌}
use Rattle.diagrams.specs.Diagrams.{ArrowView, ItemView, AnArrow, ANote}

-- the row in which an item begins
unfoldable pub row_of : ItemView → ℕ
row_of (AnArrow a) = a.begins
row_of (ANote n) = n.row

-- the line of an item in the text
unfoldable pub place_of : ItemView → ℕ
place_of (AnArrow a) = a.place.line
place_of (ANote n) = n.place.line

-- an arrow goes from one of `count` participants to another one, and not upwards
abbrev pub is_arrow : ℕ → ArrowView → Bool
is_arrow count a = nat_lt a.sender count && (nat_lt a.receiver count && (not (a.sender == a.receiver) && not (nat_lt a.ends a.begins)))

-- an item may be in a diagram of `count` participants
unfoldable pub is_placed : ℕ → ItemView → Bool
is_placed count (AnArrow a) = is_arrow count a
is_placed count (ANote n) = nat_lt n.participant count

-- an item may come after an item of this row
unfoldable pub may_stand : ℕ → ℕ → ItemView → Bool
may_stand count row i = not (nat_lt (row_of i) row) && is_placed count i

-- the line of the first misplaced item, if the item before these began in this row
unfoldable pub first_misplaced : ℕ → ℕ → List ItemView → Option ℕ
first_misplaced count row [] = None
first_misplaced count row (i ∷ items) = if may_stand count row i then first_misplaced count (row_of i) items else Some (place_of i)
