-- How the highest of some arrivals is found, and the row of a send that has the turn (this project's own).
use Rattle.std.specs.Prelude.{◌≡◌, ℕ, suc, ◌<◌, ◌≤◌, List, Option, None, Some, MatchOption, nat_lt, if◌then◌else◌}
use Rattle.chart.specs.declared.instance.EventNo.{EventNo}
use Rattle.chart.specs.Charts.{Chart, Place}
use Rattle.closure.specs.Faults.{place_of}
use Rattle.chart_layout.specs.declared.row.Row.{Row}
use Rattle.chart_layout.specs.declared.row.Row.TheVariants.{Message, Event}
use Rattle.chart_layout.specs.declared.finding.Way.TheVariants.{Level}
use Rattle.chart_layout.specs.declared.finding.Arrival.{Arrival}
use Rattle.chart_layout.specs.Picking.{HasTurn}
use Rattle.chart_layout.specs.Ways.{IsArrival, IsWay, HaveNoArrival}

-- the arrival of the two whose send is higher
abbrev pub higher : Option Arrival → Option Arrival → Option Arrival
higher (Some one) (Some other) = Some (if nat_lt other.row one.row then other else one)
higher (Some one) None = Some one
higher None other = other

-- the arrival of the first n lines whose send is highest, or none
abbrev pub IsHighestOf : Chart → ℕ → List Row → Option Arrival → Type 0
IsHighestOf c n rows best = MatchOption best (HaveNoArrival c n rows)
    (λ best. IsArrival c rows (place_of best.receive) best.row
    × ((p : ℕ) (x : Place) (j : ℕ) → p < n → x.instance ≡ suc p → IsArrival c rows x j → best.row ≤ j))

-- the row of a send that is next: with its receive, if that is next by the turns after it
abbrev pub IsSendRow : Chart → List Row → List ℕ → EventNo → Row → Type 0
IsSendRow c rows behind send (Message s r) = (s ≡ send) × HasTurn behind r.instance × IsWay c rows Level (Message send r)
IsSendRow c rows behind send (Event e) = (e ≡ send)
    × ((r : EventNo) → HasTurn behind r.instance → IsWay c rows Level (Message send r) → ⊥)
