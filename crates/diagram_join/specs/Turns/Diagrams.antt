-- The turns of a diagram whose lines may be joined.
use Rattle.std.specs.Prelude.{ℕ, List, [], ◌∷◌, length, Result, Ok, Err, if◌then◌else◌}
use Rattle.diagrams.specs.Collecting.{CollectedView, collected}
use Rattle.diagrams.specs.Diagrams.{DiagramView, ParticipantView}
use Rattle.diagrams.specs.Building.{has_no_chart}
use Rattle.diagrams.specs.Losing.{kept}
use Rattle.diagrams.specs.Naming.{names_from}
use Rattle.diagrams.specs.declared.left_out.LeftOut.{LeftOut}
use Rattle.diagrams.specs.declared.message.Message.{Message}
use Rattle.diagram_join.specs.Joined.{JoinedView, joined}
use Rattle.diagram_join.specs.Joins.{JoinView}
use Rattle.diagram_join.specs.declared.error.JoinError.{JoinError}
use Rattle.diagram_join.specs.Turns.Turns.{turns_of}

-- the messages that stay, or none if the joins are refused
abbrev pub stay_of : Result JoinedView JoinError → List Message
stay_of (Ok j) = j.messages
stay_of (Err e) = []

-- the messages of the diagram's chart, if its lines have these names
abbrev pub messages_by : List ParticipantView → List JoinView → List (List ℕ) → List Message → List LeftOut → List Message
messages_by participants [] lines messages left_out = kept messages
messages_by participants (j ∷ joins) lines messages left_out = stay_of (joined participants lines (j ∷ joins) messages left_out)

-- the same, from the collected messages of the diagram's items
abbrev pub messages_from : DiagramView → List JoinView → List (List ℕ) → CollectedView → List Message
messages_from d joins lines c = messages_by d.participants joins lines c.messages c.left_out

abbrev pub messages_named : DiagramView → List JoinView → List (List ℕ) → List Message
messages_named d joins lines = messages_from d joins lines (collected lines d.items d.left_out)

-- the messages of the diagram's chart with these joins: none if it has too few participants for a chart, or too many
unfoldable pub messages_of : DiagramView → List JoinView → List Message
messages_of d joins =
    if has_no_chart (length d.participants) then [] else messages_named d joins (names_from [] d.participants)

-- the turns of the diagram, from the top
abbrev pub turns_in : DiagramView → List JoinView → List ℕ
turns_in d joins = turns_of (messages_of d joins)
