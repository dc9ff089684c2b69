-- Tables with a send for each lane (this project's own).
use Rattle.std.specs.Prelude.{◌≡◌, ℕ, ◌+◌, ◌-◌, ◌*◌, ◌≤◌, ◌==◌, ◌&&◌, List, Option, None, slice_index_or, if◌then◌else◌}
use Rattle.chart.specs.declared.instance.TheConstants.{MAX_INSTANCES}

-- the index of the lane from q to p
abbrev pub slot_of : ℕ → ℕ → ℕ
slot_of q p = (q - 1) * MAX_INSTANCES + (p - 1)

-- a number that an instance may have
abbrev pub IsInstance : ℕ → Type 0
IsInstance p = (1 ≤ p) × (p ≤ MAX_INSTANCES)

-- a send for each lane, if it has one
abbrev pub LaneSends : Type 0
LaneSends = ℕ → ℕ → Option ℕ

-- the table has the send of each lane
abbrev pub AreLanes : List (Option ℕ) → LaneSends → Type 0
AreLanes table sends = (q p : ℕ) → IsInstance q → IsInstance p → slice_index_or table (slot_of q p) None ≡ sends q p

-- the sends, with another one for the lane from a to b
abbrev pub changed : LaneSends → ℕ → ℕ → Option ℕ → LaneSends
changed sends a b send q p = if a == q && b == p then send else sends q p
