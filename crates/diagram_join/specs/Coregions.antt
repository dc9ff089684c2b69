-- Coregions of joined lines. The receives of a line in one row of a diagram are a coregion, because the drawing doesn't
-- order them. They stay one if no receive of another line of the instance comes between them. Otherwise they are in the
-- order of the diagram.
use Rattle.std.specs.Prelude.{ℕ, ◌+◌, ◌*◌, Bool, not, ◌&&◌, ◌==◌, List, [], ◌∷◌, length, if◌then◌else◌}
use Rattle.std.specs.List.{list_any, position_or_len}
use Rattle.diagrams.specs.declared.message.Message.{Message}

-- the instance p receives the message in this row
abbrev pub is_received : ℕ → ℕ → Message → Bool
is_received row p m = not m.is_lost && (m.ends == row && m.receiver == p)

-- this line of the instance receives the message there
abbrev pub is_own : ℕ → ℕ → ℕ → Message → Bool
is_own row p line m = is_received row p m && m.line == line

-- another line of the instance receives the message there
abbrev pub is_other : ℕ → ℕ → ℕ → Message → Bool
is_other row p line m = is_received row p m && not (m.line == line)

-- the messages after the first one that passes the test
unfoldable pub behind : (Message → Bool) → List Message → List Message
behind test [] = []
behind test (m ∷ messages) = if test m then messages else behind test messages

-- a receive of another line comes between two receives of this line
unfoldable pub is_parted : List Message → ℕ → ℕ → ℕ → Bool
is_parted messages row p line = list_any (is_own row p line) (behind (is_other row p line) (behind (is_own row p line) messages))

-- Each row is cut into as many rows as there are messages. The sends are in the first of them. If a coregion stays, its
-- receives are in the row of its first message. Any other receive is in the row of its own message.
abbrev pub place_in : List Message → ℕ → Message → ℕ
place_in messages place m =
    if is_parted messages m.ends m.receiver m.line then place else position_or_len (is_own m.ends m.receiver m.line) messages

abbrev pub cut : List Message → ℕ → Message → Message
cut messages place m = record m { begins = m.begins * length messages; ends = m.ends * length messages + place_in messages place m }

-- the rest of the messages, in the cut rows; the first of them has this place
unfoldable pub cut_from : List Message → ℕ → List Message → List Message
cut_from messages place [] = []
cut_from messages place (m ∷ rest) = cut messages place m ∷ cut_from messages (place + 1) rest
