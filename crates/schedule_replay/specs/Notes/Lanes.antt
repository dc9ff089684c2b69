-- Tables with a send for each lane, and their meaning (this project's own).
use Rattle.std.specs.Prelude.{◌≡◌, ℕ, ◌+◌, ◌-◌, ◌*◌, ◌≤◌, ◌==◌, ◌&&◌, List, Option, None, slice_index_or, if◌then◌else◌}
use Rattle.chart.specs.declared.instance.TheConstants.{MAX_INSTANCES}

-- the place of the lane from q to p in a table
abbrev pub slot_of : ℕ → ℕ → ℕ
slot_of q p = (q - 1) * MAX_INSTANCES + (p - 1)

-- p is the number of a possible instance
abbrev pub IsInstance : ℕ → Type 0
IsInstance p = (1 ≤ p) × (p ≤ MAX_INSTANCES)

-- the line of a send for each lane, if it has one
abbrev pub LaneSends : Type 0
LaneSends = ℕ → ℕ → Option ℕ

-- the table has the send of each lane
abbrev pub AreLanes : List (Option ℕ) → LaneSends → Type 0
AreLanes table sends = (q p : ℕ) → IsInstance q → IsInstance p → slice_index_or table (slot_of q p) None ≡ sends q p

-- the sends with another one for the lane from a to b
abbrev pub changed : LaneSends → ℕ → ℕ → Option ℕ → LaneSends
changed sends a b send q p = if b == p && a == q then send else sends q p
