-- Runs in which each instance finishes what a message makes it do before it receives again. This is run to completion,
-- as the state machines of UML have it, over runs of a chart's events, in this project's profile.
use Rattle.std.specs.Prelude.{ℕ, List}
use Rattle.chart.specs.declared.history.Occurrence.{Occurrence}
use Rattle.chart.specs.Histories.{Begins}
use Rattle.chart.specs.Charts.{Chart, Place, at, IsReceiveFrom}
use Rattle.chart.specs.Order.{IsEarlier}
use Rattle.reordering.specs.Completion.Handling.{IsHandled}
use Rattle.reordering.specs.OtherRuns.OtherRuns.{HasCome}

-- all receives that the send s handles have come in the history
abbrev pub HaveCome : Chart → List Occurrence → Place → Type 0
HaveCome c h s = (d : ℕ) → IsHandled (c s.instance) d s.index → HasCome c h (at s.instance d)

-- once all receives that a send handles have come, their instance makes the send before it gets a later receive of its
-- line: no beginning of the history has r without s
abbrev pub Finishes : Chart → List Occurrence → Type 0
Finishes c g = (s r : Place) (q d : ℕ) → IsEarlier s r → IsReceiveFrom c q r → IsHandled (c s.instance) d s.index
    → (h : List Occurrence) → Begins h g → HaveCome c h s → (HasCome c h r → ⊥)
    → (f : List Occurrence) → Begins f g → HasCome c f r → HasCome c f s
