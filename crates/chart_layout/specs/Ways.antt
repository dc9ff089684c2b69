-- Which rows may come next below the rows that are already drawn (this project's own).
use Rattle.std.specs.Prelude.{◌≡◌, ℕ, suc, ◌<◌, ◌≤◌, List, length, Some}
use Rattle.chart.specs.Charts.{Chart, Place, IsSendTo, BelongsTo}
use Rattle.chart.specs.Places.{IsEvent}
use Rattle.closure.specs.Faults.{place_of}
use Rattle.chart_layout.specs.declared.row.Row.{Row}
use Rattle.chart_layout.specs.declared.row.Row.TheVariants.{Message, Event}
use Rattle.chart_layout.specs.declared.finding.Way.{Way}
use Rattle.chart_layout.specs.declared.finding.Way.TheVariants.{Level, Early}
use Rattle.chart_layout.specs.Layouts.{laid_out, row_of, IsNext}

-- the chart has the event, and it is the next of its line below these rows
pub record IsNextEvent (c : Chart) (rows : List Row) (e : Place) : Type 0 where
  pub event : IsEvent c e
  pub next : IsNext rows e

-- the event is in these rows
abbrev pub IsAbove : List Row → Place → Type 0
IsAbove rows e = (i : ℕ) × (row_of rows e ≡ Some i)

-- the event is a receive that may come next: its send is above, in the row of this number
pub record IsArrival (c : Chart) (rows : List Row) (e : Place) (i : ℕ) : Type 0 where
  pub next : IsNextEvent c rows e
  pub send : Place
  pub belongs : BelongsTo c send e
  pub row : row_of rows send ≡ Some i

-- the row may come next in one of the other ways: as a message of which both ends are next, or as a send
abbrev pub IsWay : Chart → List Row → Way → Row → Type 0
IsWay c rows Level (Message send receive) = BelongsTo c (place_of send) (place_of receive)
    × IsNextEvent c rows (place_of send) × IsNextEvent c rows (place_of receive)
IsWay c rows Level (Event event) = ⊥
IsWay c rows Early (Message send receive) = ⊥
IsWay c rows Early (Event event) = IsNextEvent c rows (place_of event) × ((q : ℕ) × IsSendTo c q (place_of event))

-- the next event of the line at p is no receive whose send is above
abbrev pub HasNoArrival : Chart → List Row → ℕ → Type 0
HasNoArrival c rows p = (e : Place) (i : ℕ) → e.instance ≡ suc p → IsArrival c rows e i → ⊥

-- the line at p has no next event that may come in this way: a message is searched for on its receiver's line
abbrev pub HasNoWay : Chart → List Row → Way → ℕ → Type 0
HasNoWay c rows Level p = (s r : Place) → r.instance ≡ suc p → BelongsTo c s r → IsNextEvent c rows s → IsNextEvent c rows r
    → ⊥
HasNoWay c rows Early p = (q : ℕ) (s : Place) → s.instance ≡ suc p → IsSendTo c q s → IsNextEvent c rows s → ⊥

-- no line has one
abbrev pub HaveNoArrival : Chart → ℕ → List Row → Type 0
HaveNoArrival c n rows = (p : ℕ) → p < n → HasNoArrival c rows p

abbrev pub HaveNoWay : Chart → ℕ → List Row → Way → Type 0
HaveNoWay c n rows way = (p : ℕ) → p < n → HasNoWay c rows way p

-- the event may be alone in the next row
pub record IsNextAlone (c : Chart) (rows : List Row) (e : Place) : Type 0 where
  pub next : IsNextEvent c rows e
  pub after : (s : Place) → BelongsTo c s e → IsAbove rows s

-- the row may be the next one
abbrev pub IsNextRow : Chart → List Row → Row → Type 0
IsNextRow c rows (Message send receive) = IsWay c rows Level (Message send receive)
IsNextRow c rows (Event event) = IsNextAlone c rows (place_of event)

-- all events of the first n lines are in these rows
abbrev pub AreLaidOut : Chart → ℕ → List Row → Type 0
AreLaidOut c n rows = (p : ℕ) → p < n → length (c (suc p)) ≤ length (laid_out rows (suc p))
