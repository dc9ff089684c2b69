-- Messages that cross. Lanes are first in, first out (Alur, Holzmann and Peled 1996). So no message may be received
-- above one of its lane that was sent before it.
use Rattle.std.specs.Prelude.{ℕ, Bool, false, not, ◌&&◌, max, List, [], ◌∷◌, ◌++◌, Option, None, Some, nat_lt, nat_le, if◌then◌else◌}
use Rattle.std.specs.List.{list_any}
use Rattle.diagrams.specs.Collecting.{first_line}
use Rattle.diagrams.specs.Lanes.{is_on}
use Rattle.diagrams.specs.declared.message.Message.{Message}

-- the message goes from q to p, and is received
abbrev pub is_received : ℕ → ℕ → Message → Bool
is_received q p m = is_on q p m && not m.is_lost

-- m is received above n, on the same lane
abbrev pub overtakes : Message → Message → Bool
overtakes m n = not m.is_lost && (is_received m.sender m.receiver n && nat_lt m.ends n.ends)

-- m is received above one of the earlier messages of its lane
unfoldable pub crosses : List Message → Message → Bool
crosses earlier m = list_any (λ n. overtakes m n) earlier

-- the first fault, with these two messages: if m overtakes n, no chart is possible with the later of their lines
abbrev pub fault_beside : Option ℕ → Message → Message → Option ℕ
fault_beside fault m n = if overtakes m n then first_line fault (max m.whole n.whole) else fault

-- the first line with which no chart is possible, if m comes after the earlier messages
unfoldable pub fault_with : Option ℕ → Message → List Message → Option ℕ
fault_with fault m [] = fault
fault_with fault m (n ∷ earlier) = fault_with (fault_beside fault m n) m earlier

-- the same for several messages after the earlier ones
unfoldable pub fault_from : Option ℕ → List Message → List Message → Option ℕ
fault_from fault earlier [] = fault
fault_from fault earlier (m ∷ messages) = fault_from (fault_with fault m earlier) (earlier ++ m ∷ []) messages

-- a fault in this line or above
abbrev pub is_known : Option ℕ → ℕ → Bool
is_known None line = false
is_known (Some k) line = nat_le k line
