-- Runs of a chart with its lines as drawn, made step by step (this project's own).
use Rattle.std.specs.Prelude.{◌≡◌, ℕ, suc, ◌-◌, ◌<◌, ◌≤◌, ◌⊎◌, Option, None, Some, List, [], ◌∷◌, length, slice_get, slice_index}
use Rattle.chart.specs.declared.event.Event.{Event}
use Rattle.chart.specs.declared.event.Event.TheVariants as events
use Rattle.chart.specs.declared.history.Occurrence.{Occurrence}
use Rattle.chart.specs.declared.line.TheConstants.{MAX_EVENTS}
use Rattle.chart.specs.Histories.{by, waiting, chart_of, IsLegal}
use Rattle.chart.specs.Charts.{Chart}
use Rattle.reordering.specs.OtherRuns.OtherRuns.{IsPossibleWithin}
use Rattle.chart.specs.declared.run_steps.step.Step.{Step}
use Rattle.chart.specs.RunSteps.Steps.{history_of, occurrence_of, step_made}

-- after h the lane lets p make the event: it has a free slot, or a message waits
abbrev pub MayCome : ℕ → List Occurrence → ℕ → Event → Type 0
MayCome k h p (events.Send q name) = length (waiting h p q) < k
MayCome k h p (events.Receive q name region) = 0 < length (waiting h q p)

-- after h the lane doesn't let p make the event
abbrev pub IsHeld : ℕ → List Occurrence → ℕ → Event → Type 0
IsHeld k h p (events.Send q name) = k ≤ length (waiting h p q)
IsHeld k h p (events.Receive q name region) = length (waiting h q p) ≡ 0

-- after h the occurrence x is the next event of the line at p, and may come
abbrev pub ComesNext : Chart → ℕ → List Occurrence → ℕ → Occurrence → Type 0
ComesNext c k h p x = (m : Event) × (slice_get (c (suc p)) (length (chart_of h (suc p))) ≡ Some m)
    × (x ≡ occurrence_of (step_made (suc p) m)) × MayCome k h (suc p) m

-- after h all events of the line at p were made, or its lane holds the next one
abbrev pub CannotGoOn : Chart → ℕ → List Occurrence → ℕ → Type 0
CannotGoOn c k h p = (m : Event) → slice_get (c (suc p)) (length (chart_of h (suc p))) ≡ Some m → IsHeld k h (suc p) m

-- the line of the last event, from 0; at first that of instance 1
abbrev pub last_line : List Occurrence → ℕ
last_line [] = 0
last_line (x ∷ h) = by x - 1

-- after h the line of the last event goes on if it can, and otherwise the first line that can
abbrev pub GoesOn : Chart → ℕ → ℕ → List Occurrence → Occurrence → Type 0
GoesOn c n k h x = ComesNext c k h (last_line h) x
    ⊎ (CannotGoOn c k h (last_line h)
    × ((p : ℕ) × (p < n) × ((l : ℕ) → l < p → CannotGoOn c k h l) × ComesNext c k h p x))

-- each event from the first to the last came in this way
abbrev pub IsInTurn : Chart → ℕ → ℕ → List Occurrence → Type 0
IsInTurn c n k [] = Unit {0}
IsInTurn c n k (x ∷ h) = GoesOn c n k h x × IsInTurn c n k h

-- The steps are a run of the chart, with its lines as drawn, over lanes of k slots: each line goes on as long as it
-- can, and then the first line that can.
pub record IsChartRun (n k : ℕ) (c : Chart) (steps : List Step) : Type 0 where
  pub legal : IsLegal n k (history_of steps)
  pub chart : (p : ℕ) → chart_of (history_of steps) p ≡ c p
  pub turn : IsInTurn c n k (history_of steps)

-- what is found within k slots: such a run, or that there is none
abbrev pub IsRunFound : ℕ → ℕ → Chart → Option (List Step) → Type 0
IsRunFound n k c None = IsPossibleWithin n k c → ⊥
IsRunFound n k c (Some steps) = IsChartRun n k c steps

-- k is the least number of slots, from 1 on, over which there is such a run, and the steps are one
pub record IsLeastRun (n k : ℕ) (c : Chart) (steps : List Step) : Type 0 where
  pub begun : 1 ≤ k
  pub limit : k ≤ MAX_EVENTS
  pub chart_run : IsChartRun n k c steps
  pub least : (l : ℕ) → 1 ≤ l → l < k → IsPossibleWithin n l c → ⊥

-- this many events of the line at p were made: the step makes the next one, and may
abbrev pub IsNext : Chart → ℕ → List Occurrence → List ℕ → ℕ → Step → Type 0
IsNext c k h made p x = (m : Event) × (slice_get (c (suc p)) (slice_index made p) ≡ Some m) × (x ≡ step_made (suc p) m)
    × MayCome k h (suc p) m

-- all events of the line at p were made, or its lane holds the next one
abbrev pub IsStopped : Chart → ℕ → List Occurrence → List ℕ → ℕ → Type 0
IsStopped c k h made p = (m : Event) → slice_get (c (suc p)) (slice_index made p) ≡ Some m → IsHeld k h (suc p) m

-- no line goes on
abbrev pub AreStopped : Chart → ℕ → ℕ → List Occurrence → List ℕ → Type 0
AreStopped c n k h made = (p : ℕ) → p < n → IsStopped c k h made p

-- the line at p goes on by the step, or else the first line that goes on
abbrev pub GoesOnFirst : Chart → ℕ → ℕ → List Occurrence → List ℕ → ℕ → Step → Type 0
GoesOnFirst c n k h made p x = IsNext c k h made p x
    ⊎ (IsStopped c k h made p
    × ((q : ℕ) × (q < n) × ((l : ℕ) → l < q → IsStopped c k h made l) × IsNext c k h made q x))
