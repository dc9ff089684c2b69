-- The turns of a diagram: whose event comes next, from the top. Row by row the events are in the order of the text. A
-- receive is directly after its send if both are in one row. If an instance also sends in a row, its receives of the
-- row come after all sends of the row. On its line they come after its own sends (this project's profile).
use Rattle.std.specs.Prelude.{ℕ, ◌+◌, ◌*◌, ◌==◌, ◌&&◌, Bool, List, [], ◌∷◌, map, if◌then◌else◌}
use Rattle.std.specs.List.{flat_map, list_any}
use Rattle.diagrams.specs.declared.message.Message.{Message}
use Rattle.chart.specs.StableOrder.Order.{in_order_by}
use Rattle.diagram_join.specs.declared.turns.moments.Moment.{Moment}

-- the message is sent in this row, by the instance p
abbrev pub is_sent : ℕ → ℕ → Message → Bool
is_sent row p m = m.begins == row && m.sender == p

-- the instance sends one of these messages in the row
abbrev pub sends_in : List Message → ℕ → ℕ → Bool
sends_in messages row p = list_any (is_sent row p) messages

-- the moment of a message's send
abbrev pub sent : Message → Moment
sent m = record { turn = 2 * m.begins; instance = m.sender }

-- the moment of a message's receive
abbrev pub received : List Message → Message → Moment
received messages m = record {
  turn = 2 * m.ends + (if sends_in messages m.ends m.receiver then 1 else 0);
  instance = m.receiver;
}

-- the events of one of these messages: a lost one isn't received
abbrev pub moments_of : List Message → Message → List Moment
moments_of messages m = if m.is_lost then sent m ∷ [] else sent m ∷ received messages m ∷ []

-- the events sorted by their moments, those of one moment in the order of the text
abbrev pub in_turn : List Moment → List Moment
in_turn moments = in_order_by (λ (e : Moment). e.turn) moments

-- the turns of these messages, from the top
unfoldable pub turns_of : List Message → List ℕ
turns_of messages = map (λ e. e.instance) (in_turn (flat_map (moments_of messages) messages))
