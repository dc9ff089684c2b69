-- Tables of coregions: for the crate's own functions.
use Rattle.std.specs.Prelude.{◌≡◌, ℕ, ◌+◌, Bool, false, not, ◌&&◌, ◌||◌, ◌==◌, List, [], ◌∷◌, Option, None, Some, if◌then◌else◌}
use Rattle.std.specs.List.{list_any, position_or_len}
use Rattle.std.specs.Map.{lookup}
use Rattle.diagrams.specs.declared.message.Message.{Message}
use Rattle.diagram_join.specs.Coregions.{is_received, is_own, is_parted}
use Rattle.diagram_join.specs.declared.coregions.Coregion.{Coregion}
use Rattle.diagram_join.specs.declared.coregions.Row.{Row}
use Rattle.diagram_join.specs.declared.coregions.Spot.{Spot}

-- the line of the first of these messages that the instance receives in the row
unfoldable pub next_line : List Message → ℕ → ℕ → Option ℕ
next_line [] row p = None
next_line (m ∷ later) row p = if is_received row p m then Some m.line else next_line later row p

-- the receives of the line in the row, among these messages; the first of them has this place
abbrev pub coregion_of : ℕ → List Message → ℕ → ℕ → ℕ → Option Coregion
coregion_of place later row p line =
    if list_any (is_own row p line) later
    then Some (record { first = place + position_or_len (is_own row p line) later; is_parted = is_parted later row p line })
    else None

abbrev pub is_line : Option ℕ → ℕ → Bool
is_line None line = false
is_line (Some next) line = next == line

-- whether a coregion is parted once one more receive is added at its beginning; the second argument is the line of the
-- next receive in the row
abbrev pub parted_with : Option Coregion → Option ℕ → ℕ → Bool
parted_with None next line = false
parted_with (Some coregion) next line = coregion.is_parted || not (is_line next line)

abbrev pub same_spot : Spot → Spot → Bool
same_spot x y = x.row == y.row && (x.instance == y.instance && x.line == y.line)

abbrev pub same_row : Row → Row → Bool
same_row x y = x.row == y.row && x.instance == y.instance

abbrev pub spot_of : Message → Spot
spot_of m = record { row = m.ends; instance = m.receiver; line = m.line }

abbrev pub row_of : Message → Row
row_of m = record { row = m.ends; instance = m.receiver }

-- the table has each coregion of these messages; the first of them has this place
abbrev pub AreCoregions : List (Spot × Coregion) → ℕ → List Message → Type 0
AreCoregions entries place later = (row p line : ℕ) → lookup (same_spot (record { row = row; instance = p; line = line })) entries ≡ coregion_of place later row p line

-- the table has the line of each row's first receive among these messages
abbrev pub AreLines : List (Row × ℕ) → List Message → Type 0
AreLines entries later = (row p : ℕ) → lookup (same_row (record { row = row; instance = p })) entries ≡ next_line later row p
