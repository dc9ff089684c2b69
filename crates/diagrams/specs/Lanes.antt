-- Tables with a number for each lane, and their meaning (this project's own).
use Rattle.std.specs.Prelude.{◌≡◌, ℕ, ◌+◌, ◌-◌, ◌*◌, ◌≤◌, ◌==◌, ◌&&◌, Bool, List, slice_index, if◌then◌else◌}
use Rattle.chart.specs.declared.instance.TheConstants.{MAX_INSTANCES}
use Rattle.diagrams.specs.declared.message.Message.{Message}

-- the message goes from q to p
abbrev pub is_on : ℕ → ℕ → Message → Bool
is_on q p m = m.sender == q && m.receiver == p

-- the place of the lane from q to p in a table
abbrev pub slot_of : ℕ → ℕ → ℕ
slot_of q p = (q - 1) * MAX_INSTANCES + (p - 1)

-- the number of a possible instance
abbrev pub IsInstance : ℕ → Type 0
IsInstance p = (1 ≤ p) × (p ≤ MAX_INSTANCES)

-- a number for each lane
abbrev pub Numbers : Type 0
Numbers = ℕ → ℕ → ℕ

-- the table has the number of each lane
abbrev pub AreNumbers : List ℕ → Numbers → Type 0
AreNumbers table numbers = (q p : ℕ) → IsInstance q → IsInstance p → slice_index table (slot_of q p) ≡ numbers q p

-- the numbers, with n for the lane from a to b
abbrev pub changed : Numbers → ℕ → ℕ → ℕ → Numbers
changed numbers a b n q p = if a == q && b == p then n else numbers q p
