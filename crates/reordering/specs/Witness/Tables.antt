-- Tables with a number for each lane, and their meaning (this project's own).
use Rattle.std.specs.Prelude.{◌≡◌, ℕ, ◌+◌, ◌-◌, ◌*◌, ◌≤◌, false, Bool, List, slice_index, slice_index_or}
use Rattle.chart.specs.Words.{Counts}
use Rattle.chart.specs.declared.instance.TheConstants.{MAX_INSTANCES}

-- the place of the lane from q to p in a table
abbrev pub slot_of : ℕ → ℕ → ℕ
slot_of q p = (q - 1) * MAX_INSTANCES + (p - 1)

-- p is the number of a possible instance
abbrev pub IsInstance : ℕ → Type 0
IsInstance p = (1 ≤ p) × (p ≤ MAX_INSTANCES)

-- the table has the number of each lane
abbrev pub AreCounts : Counts → (ℕ → ℕ → ℕ) → Type 0
AreCounts table numbers = (q p : ℕ) → IsInstance q → IsInstance p → slice_index table (slot_of q p) ≡ numbers q p

-- the list has the flag of each instance
abbrev pub AreFlags : List Bool → (ℕ → Bool) → Type 0
AreFlags list flags = (p : ℕ) → IsInstance p → slice_index_or list (p - 1) false ≡ flags p
