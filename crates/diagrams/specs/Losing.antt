-- Lost messages: one is skipped if a later message of its lane is received. Lanes are first in, first out. The receive
-- of the later message would be taken for one of the lost message.
use Rattle.std.specs.Prelude.{ℕ, Bool, ◌&&◌, List, [], ◌∷◌, if◌then◌else◌}
use Rattle.std.specs.List.{list_any}
use Rattle.diagrams.specs.Crossing.{is_received}
use Rattle.diagrams.specs.LeftOuts.{with_one}
use Rattle.diagrams.specs.declared.left_out.LeftOut.{LeftOut}
use Rattle.diagrams.specs.declared.left_out.Kind.TheVariants as kinds
use Rattle.diagrams.specs.declared.message.Message.{Message}

-- a later message of the lane is received
unfoldable pub is_received_later : List Message → ℕ → ℕ → Bool
is_received_later later q p = list_any (is_received q p) later

-- the message is lost, and a later message of its lane is received
abbrev pub is_left_out : Message → List Message → Bool
is_left_out m later = m.is_lost && is_received_later later m.sender m.receiver

-- the messages that stay
unfoldable pub kept : List Message → List Message
kept [] = []
kept (m ∷ messages) = if is_left_out m messages then kept messages else m ∷ kept messages

-- the skipped constructs, with the lost messages that don't stay
unfoldable pub with_lost : List LeftOut → List Message → List LeftOut
with_lost left_out [] = left_out
with_lost left_out (m ∷ messages) =
    if is_left_out m messages then with_one (with_lost left_out messages) kinds.LostMessage m.place else with_lost left_out messages
