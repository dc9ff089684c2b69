-- Runs as lists of steps, in order, and the histories that they make (this project's profile).
use Rattle.std.specs.Prelude.{◌≡◌, ℕ, ◌+◌, List, [], ◌∷◌, length, take, slice_get, Some}
use Rattle.chart.specs.declared.history.Occurrence.{Occurrence}
use Rattle.chart.specs.declared.history.Occurrence.TheVariants as occurrences
use Rattle.chart.specs.declared.event.Event.{Event}
use Rattle.chart.specs.declared.event.Event.TheVariants as events
use Rattle.chart.specs.Histories.{by, sent, received, chart_of}
use Rattle.chart.specs.Charts.{Place, at}
use Rattle.chart.specs.declared.run_steps.step.Step.{Step}
use Rattle.chart.specs.declared.run_steps.step.Step.TheVariants.{Send, Receive}

-- what a step does; a message has no body here
abbrev pub occurrence_of : Step → Occurrence
occurrence_of (Send a b name) = occurrences.Send a b (record { name = name; body = [] })
occurrence_of (Receive a b region) = occurrences.Receive a b region

-- the step by which p makes the event
abbrev pub step_made : ℕ → Event → Step
step_made p (events.Send q name) = Send p q name
step_made p (events.Receive q name region) = Receive p q region

-- the history h, continued by these steps
abbrev pub after : List Occurrence → List Step → List Occurrence
after h [] = h
after h (x ∷ steps) = after (occurrence_of x ∷ h) steps

-- the history that steps make
abbrev pub history_of : List Step → List Occurrence
history_of steps = after [] steps

-- the turn of a step on its lane, from 1, after h
abbrev pub turn_of : List Occurrence → Step → ℕ
turn_of h (Send a b name) = length (sent h a b) + 1
turn_of h (Receive a b region) = received h b a + 1

-- the place in the chart of the event that the i-th step makes, counted from 0
abbrev pub place_after : List Step → ℕ → Step → Place
place_after steps i x =
    at (by (occurrence_of x)) (length (chart_of (history_of (take i steps)) (by (occurrence_of x))) + 1)

-- the step, put outside of coregions
abbrev pub outside_regions : Step → Step
outside_regions (Send a b name) = Send a b name
outside_regions (Receive a b region) = Receive a b 0

-- the step is outside of coregions
abbrev pub IsOutside : Step → Type 0
IsOutside x = outside_regions x ≡ x

-- the instance whose step it is
abbrev pub maker_of : Step → ℕ
maker_of (Send a b name) = a
maker_of (Receive a b region) = a

-- the step of this number is a receive
abbrev pub IsReceive : List Step → ℕ → Type 0
IsReceive steps i = (a b region : ℕ) × (slice_get steps i ≡ Some (Receive a b region))
