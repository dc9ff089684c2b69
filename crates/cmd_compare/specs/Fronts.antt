-- The fronts of the receives of a recording, in a list indexed by the events' numbers among those of all lines (this
-- project's own).
use Rattle.std.specs.Prelude.{◌≡◌, ℕ, ◌+◌, ◌-◌, ◌*◌, nat_lt, List, [], ◌∷◌, length, drop, slice_get, slice_set, Some, if◌then◌else◌}
use Rattle.chart.specs.declared.instance.EventNo.{EventNo}
use Rattle.chart.specs.declared.line.TheConstants.{MAX_EVENTS}
use Rattle.chart.specs.Charts.{Chart, at, IsReceiveFrom}
use Rattle.chart.specs.Reports.{ReportView}
use Rattle.cmd_compare.specs.Verdicts.{IsFront}

-- an event's number among the events of all lines
abbrev pub number_of : EventNo → ℕ
number_of event = (event.instance - 1) * MAX_EVENTS + event.index

-- the front of a receive, by its races: the events above the first race, or all events above the receive
abbrev pub front_by : EventNo → List EventNo → ℕ
front_by receive [] = receive.index - 1
front_by receive (race ∷ races) = race.index - 1

-- the front of a receive is stored, if the list has an index for it
abbrev pub with_front : List ℕ → EventNo → ℕ → List ℕ
with_front fronts receive front =
    if nat_lt (number_of receive) (length fronts) then slice_set fronts (number_of receive) front else fronts

-- the fronts of some reports are stored, one after the other
abbrev pub with_fronts : List ℕ → List ReportView → List ℕ
with_fronts fronts [] = fronts
with_fronts fronts (report ∷ reports) =
    with_fronts (with_front fronts report.receive (front_by report.receive report.earlier)) reports

-- the list has the front of each receive
abbrev pub HasFronts : Chart → List ℕ → Type 0
HasFronts c fronts = (q p i : ℕ) → IsReceiveFrom c q (at p i)
    → (k : ℕ) × (slice_get fronts (number_of (record { instance = p; index = i })) ≡ Some k) × IsFront c (at p i) k

-- the fronts from the first event of p's line on
abbrev pub fronts_from : List ℕ → ℕ → List ℕ
fronts_from fronts p = drop ((p - 1) * MAX_EVENTS + 1) fronts
