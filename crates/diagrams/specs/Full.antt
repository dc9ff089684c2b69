-- Instances with more events than a line holds (this project's profile).
use Rattle.std.specs.Prelude.{ℕ, ◌+◌, Bool, ◌||◌, ◌==◌, nat_lt, List, [], ◌∷◌, Option, None, Some, if◌then◌else◌}
use Rattle.chart.specs.declared.line.TheConstants.{MAX_EVENTS}
use Rattle.diagrams.specs.declared.message.Message.{Message}

-- the number of events that a message is for an instance: its send, its receive
abbrev pub sends_of : ℕ → Message → ℕ
sends_of p m = if m.sender == p then 1 else 0

abbrev pub receives : Message → ℕ
receives m = if m.is_lost then 0 else 1

abbrev pub receives_of : ℕ → Message → ℕ
receives_of p m = if m.receiver == p then receives m else 0

-- the number of events that these messages are for an instance
unfoldable pub load : List Message → ℕ → ℕ
load [] p = 0
load (m ∷ messages) p = load messages p + sends_of p m + receives_of p m

-- the sender or the receiver of m has too many events in these messages
abbrev pub is_full : List Message → Message → Bool
is_full messages m = nat_lt MAX_EVENTS (load messages m.sender) || nat_lt MAX_EVENTS (load messages m.receiver)

-- the line of the first message with which an instance has too many events; in the list of earlier messages the last
-- one is first
unfoldable pub full_from : List Message → List Message → Option ℕ
full_from earlier [] = None
full_from earlier (m ∷ messages) =
    if is_full (m ∷ earlier) m then Some m.place.line else full_from (m ∷ earlier) messages
