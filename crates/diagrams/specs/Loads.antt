-- Tables with the number of events of each instance: for the crate's own functions.
use Rattle.std.specs.Prelude.{◌≡◌, ℕ, ◌+◌, ◌-◌, ◌==◌, List, slice_index, if◌then◌else◌}
use Rattle.diagrams.specs.Full.{load}
use Rattle.diagrams.specs.Lanes.{IsInstance}
use Rattle.diagrams.specs.declared.message.Message.{Message}

-- the table has the number of each instance
abbrev pub AreCounts : List ℕ → (ℕ → ℕ) → Type 0
AreCounts table counts = (p : ℕ) → IsInstance p → slice_index table (p - 1) ≡ counts p

-- the numbers, with n more for the instance a
abbrev pub raised : (ℕ → ℕ) → ℕ → ℕ → ℕ → ℕ
raised counts a n p = counts p + (if a == p then n else 0)

-- the table has for each instance the number of events that these messages are for it
abbrev pub AreLoads : List ℕ → List Message → Type 0
AreLoads table messages = AreCounts table (load messages)
