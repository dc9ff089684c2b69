-- The messages of a diagram on the lanes between the instances of its lines.
use Rattle.std.specs.Prelude.{ℕ, Bool, not, ◌-◌, ◌==◌, List, [], ◌∷◌, ◌++◌, position, slice_get, unwrap_or, option_and_then, option_map, Option, None, Some, if◌then◌else◌}
use Rattle.chart.specs.Names.{instance_of}
use Rattle.diagrams.specs.Crossing.{crosses, overtakes}
use Rattle.diagrams.specs.LeftOuts.{with_one}
use Rattle.diagrams.specs.declared.left_out.Kind.TheVariants as kinds
use Rattle.diagrams.specs.declared.left_out.LeftOut.{LeftOut}
use Rattle.diagrams.specs.declared.message.Message.{Message}
use Rattle.diagram_join.specs.declared.moves.Overtaking.{Overtaking}

-- the instance of a line, by the names of the instances and those of the lines' instances
abbrev pub instance_at : List (List ℕ) → List (List ℕ) → ℕ → ℕ
instance_at names processes line = unwrap_or (option_and_then (instance_of names) (slice_get processes (line - 1))) line

-- the message goes from the sender's instance to the receiver's
abbrev pub moved : List (List ℕ) → List (List ℕ) → Message → Message
moved names processes m = record m {
  sender = instance_at names processes m.sender;
  receiver = instance_at names processes m.receiver;
}

-- the message goes from one instance to another
abbrev pub is_across : Message → Bool
is_across m = not (m.sender == m.receiver)

-- the skipped constructs, with those of these messages that go from an instance to itself
unfoldable pub with_within : List LeftOut → List Message → List LeftOut
with_within left_out [] = left_out
with_within left_out (m ∷ messages) =
    with_within (if is_across m then left_out else with_one left_out kinds.MessageWithin m.place) messages

abbrev pub line_at : List Message → Option ℕ → Option ℕ
line_at messages None = None
line_at messages (Some at) = option_map (λ n. n.place.line) (slice_get messages at)

-- the line of the first of these messages that m overtakes
abbrev pub overtaken_in : List Message → Message → Option ℕ
overtaken_in before m = line_at before (position (overtakes m) before)

-- the message, unless it overtakes one of the earlier ones
abbrev pub staying : List Message → Message → List Message
staying earlier m = if crosses earlier m then [] else m ∷ []

-- these messages without those that overtake another one
unfoldable pub staying_from : List Message → List Message → List Message
staying_from earlier [] = []
staying_from earlier (m ∷ messages) = staying earlier m ++ staying_from (earlier ++ m ∷ []) messages

abbrev pub overtakings : Message → Option ℕ → List Overtaking
overtakings m None = []
overtakings m (Some line) = record { place = m.place; overtaken = line } ∷ []

-- the message, with the line of the first one that it overtakes
abbrev pub overtaking : List Message → Message → List Overtaking
overtaking earlier m = if crosses earlier m then overtakings m (overtaken_in earlier m) else []

-- the messages that overtake
unfoldable pub overtaking_from : List Message → List Message → List Overtaking
overtaking_from earlier [] = []
overtaking_from earlier (m ∷ messages) = overtaking earlier m ++ overtaking_from (earlier ++ m ∷ []) messages
