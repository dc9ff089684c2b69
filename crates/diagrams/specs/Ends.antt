-- The row furthest down in which a message of each lane is received: for the crate's own functions.
use Rattle.std.specs.Prelude.{ℕ, max, List, [], ◌∷◌, if◌then◌else◌}
use Rattle.diagrams.specs.Crossing.{is_received}
use Rattle.diagrams.specs.Lanes.{AreNumbers}
use Rattle.diagrams.specs.declared.message.Message.{Message}

-- the row furthest down in which a message of the lane is received, or 0
unfoldable pub furthest : List Message → ℕ → ℕ → ℕ
furthest [] q p = 0
furthest (m ∷ messages) q p = if is_received q p m then max m.ends (furthest messages q p) else furthest messages q p

-- the table has this row for each lane
abbrev pub AreFurthest : List ℕ → List Message → Type 0
AreFurthest table messages = AreNumbers table (furthest messages)
