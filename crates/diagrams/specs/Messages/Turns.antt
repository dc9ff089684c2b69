-- The ends of messages, and their order on an instance's line: by their rows. In a row the sends come first, in the
-- order of the text, and then the receives.
use Rattle.std.specs.Prelude.{ℕ, ◌+◌, ◌*◌, true, false, ◌==◌, List, [], ◌∷◌, ◌++◌, filter, if◌then◌else◌}
use Rattle.chart.specs.StableOrder.Order.{in_order_by}
use Rattle.diagrams.specs.declared.messages.message.Named.{Named}
use Rattle.diagrams.specs.declared.messages.end.End.{End}

-- the send of a message: the turn of a row's sends is before that of its receives
abbrev pub send_end : Named → End
send_end m = record { turn = 2 * m.begins; instance = m.sender; partner = m.receiver; sends = true; name = m.name }

-- the receive of a message
abbrev pub receive_end : Named → End
receive_end m = record { turn = 2 * m.ends + 1; instance = m.receiver; partner = m.sender; sends = false; name = m.name }

-- the ends of a message: a lost one has no receive
abbrev pub ends_of : Named → List End
ends_of m = if m.is_lost then send_end m ∷ [] else send_end m ∷ receive_end m ∷ []

-- the ends of these messages, in the order of the text
unfoldable pub all_ends : List Named → List End
all_ends [] = []
all_ends (m ∷ messages) = ends_of m ++ all_ends messages

-- an instance's ends
abbrev pub own_ends : ℕ → List End → List End
own_ends p ends = filter (λ e. e.instance == p) ends

-- the ends sorted by their turns, those of one turn in the order of the text
abbrev pub in_turn : List End → List End
in_turn ends = in_order_by (λ (e : End). e.turn) ends
