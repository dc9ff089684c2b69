-- Activations: a `return` answers the arrow of the innermost activation, or otherwise the last arrow.
use Rattle.std.specs.Prelude.{◌≡◌, ℕ, ◌-◌, Bool, true, false, ◌||◌, List, [], ◌∷◌, ◌++◌, length, take, slice_get, Option, None, Some, is_none, if◌then◌else◌}
use Rattle.diagram_statements.specs.declared.to_diagram.activations.Activations.{Activations}
use Rattle.diagram_statements.specs.declared.to_diagram.activations.Ends.{Ends}

-- the arrows of the open activations, the innermost last; the last arrow; and whether arrows activate
pub record ActivationsView : Type 0 where
  pub activating : List Ends
  pub last : Option Ends
  pub arrows_activate : Bool

abbrev pub activations_view : Activations → ActivationsView
activations_view a = record { activating = a.activating.items; last = a.last; arrows_activate = a.arrows_activate }

abbrev pub last_of : List Ends → Option Ends
last_of ends = slice_get ends (length ends - 1)

abbrev pub has_edge : Ends → Bool
has_edge ends = is_none ends.sender || is_none ends.receiver

abbrev pub activated_by : ActivationsView → Option Ends → ActivationsView
activated_by a None = a
activated_by a (Some last) =
    record { activating = a.activating ++ last ∷ []; last = a.last; arrows_activate = a.arrows_activate }

-- the last arrow activates its receiver
unfoldable pub activated : ActivationsView → ActivationsView
activated a = activated_by a a.last

-- the innermost activation ends
unfoldable pub deactivated : ActivationsView → ActivationsView
deactivated a = record {
  activating = take (length a.activating - 1) a.activating;
  last = a.last;
  arrows_activate = a.arrows_activate;
}

abbrev pub with_last : Option Ends → ActivationsView → ActivationsView
with_last last a = record { activating = a.activating; last = last; arrows_activate = a.arrows_activate }

abbrev pub sent_by : Option Bool → ActivationsView → ActivationsView
sent_by None a = a
sent_by (Some true) a = activated a
sent_by (Some false) a = deactivated a

-- an arrow becomes the last one, and may activate or end an activation
unfoldable pub sent : Ends → Option Bool → ActivationsView → ActivationsView
sent ends activates a =
    if a.arrows_activate then sent_by activates (with_last (Some ends) a) else with_last (Some ends) a

abbrev pub between_participants : Option Ends → Option Ends
between_participants None = None
between_participants (Some ends) = if has_edge ends then None else Some ends

abbrev pub answered_by : Option Ends → Option Ends → Option Ends
answered_by (Some innermost) last = Some innermost
answered_by None last = between_participants last

-- the arrow that a return answers
unfoldable pub answered : ActivationsView → Option Ends
answered a = answered_by (last_of a.activating) a.last

abbrev pub back_along : Ends → Ends
back_along ends = record { sender = ends.receiver; receiver = ends.sender }

abbrev pub returned_by : ActivationsView → Option Ends → Option Ends × ActivationsView
returned_by a None = (None, a)
returned_by a (Some ends) = (Some (back_along ends), deactivated (with_last (Some (back_along ends)) a))

-- a return: an arrow back along the one that it answers, whose activation ends
unfoldable pub returned : ActivationsView → Option Ends × ActivationsView
returned a = returned_by a (answered a)

-- a call's answer, and the activations after it, are those of the step
abbrev pub Answers : Option Ends → ActivationsView → Option Ends × ActivationsView → Type 0
Answers answer a step = (answer ≡ step.0) × (a ≡ step.1)
