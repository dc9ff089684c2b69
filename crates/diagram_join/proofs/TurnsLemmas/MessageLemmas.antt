-- The messages of a diagram's chart, step by step.
use Rattle.std.proofs.Common.{◌≡◌, ℕ, ◌<◌, ◌≤◌, true, false, List, [], ◌∷◌, length, map, refl, sym, arith}
use Rattle.diagrams.specs.Collecting.{CollectedView, collected}
use Rattle.diagrams.specs.Diagrams.{ParticipantView, DiagramView}
use Rattle.diagrams.specs.Building.{has_no_chart}
use Rattle.diagrams.specs.Losing.{kept}
use Rattle.diagrams.specs.Naming.{names_from}
use Rattle.diagrams.specs.declared.left_out.LeftOut.{LeftOut}
use Rattle.diagrams.specs.declared.message.Message.{Message}
use Rattle.diagram_join.specs.Joined.{joined}
use Rattle.diagram_join.specs.Joins.{JoinView}
use Rattle.diagram_join.specs.Turns.Diagrams.{stay_of, messages_by, messages_of}

-- with or without joins
pub without_joins : {A : Type 0} (f : A → JoinView) (participants : List ParticipantView) (lines : List (List ℕ)) (messages : List Message) (left_out : List LeftOut) (joins : List A)
    → length joins < 1 → messages_by participants (map f joins) lines messages left_out ≡ kept messages
without_joins f participants lines messages left_out [] few = refl
without_joins f participants lines messages left_out (j ∷ joins) few = absurd (omega (arith, few))

pub with_joins : {A : Type 0} (f : A → JoinView) (participants : List ParticipantView) (lines : List (List ℕ)) (messages : List Message) (left_out : List LeftOut) (joins : List A)
    → 1 ≤ length joins → messages_by participants (map f joins) lines messages left_out ≡ stay_of (joined participants lines (map f joins) messages left_out)
with_joins f participants lines messages left_out [] some = absurd (omega (arith, some))
with_joins f participants lines messages left_out (j ∷ joins) some = refl

-- step by step
pub steps : (d : DiagramView) (joins : List JoinView) (lines : List (List ℕ)) (c : CollectedView) (stay : List Message)
    → has_no_chart (length d.participants) ≡ false → lines ≡ names_from [] d.participants → c ≡ collected lines d.items d.left_out
    → stay ≡ messages_by d.participants joins lines c.messages c.left_out → stay ≡ messages_of d joins
unfolding messages_of
steps d joins lines c stay several e f g = rw (several, sym e, sym f) g

-- no chart, and so no messages
pub nothing : (d : DiagramView) (joins : List JoinView) → has_no_chart (length d.participants) ≡ true → [] ≡ messages_of d joins
unfolding messages_of
nothing d joins none = rw none refl
