-- Tables of the instances that send in each row: for the crate's own functions.
use Rattle.std.specs.Prelude.{◌≡◌, ℕ, ◌==◌, ◌&&◌, Bool, List, is_some}
use Rattle.std.specs.Map.{lookup}
use Rattle.diagrams.specs.declared.message.Message.{Message}
use Rattle.diagram_join.specs.Turns.Turns.{sends_in}
use Rattle.diagram_join.specs.declared.turns.sends.Spot.{Spot}

abbrev pub same_spot : Spot → Spot → Bool
same_spot x y = x.row == y.row && x.instance == y.instance

-- the table has a row and an instance exactly if the instance sends one of these messages in the row
abbrev pub AreSends : List (Spot × Bool) → List Message → Type 0
AreSends entries messages = (row p : ℕ) → is_some (lookup (same_spot (record { row = row; instance = p })) entries) ≡ sends_in messages row p
