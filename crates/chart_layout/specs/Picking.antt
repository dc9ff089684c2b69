-- Which row of a chart comes below which: by the turns of a run, or otherwise by a rule (this project's profile).
use Rattle.std.specs.Prelude.{◌≡◌, ◌⊎◌, ℕ, suc, ◌<◌, ◌≤◌, List, [], ◌∷◌, length, take, drop, slice_get, Some}
use Rattle.std.specs.List.{flat_map}
use Rattle.chart.specs.declared.instance.EventNo.{EventNo}
use Rattle.chart.specs.Charts.{Chart, Place, LineView, chart_lines}
use Rattle.closure.specs.Faults.{place_of}
use Rattle.chart_layout.specs.declared.row.Row.{Row}
use Rattle.chart_layout.specs.declared.row.Row.TheVariants.{Message, Event}
use Rattle.chart_layout.specs.declared.finding.Way.{Way}
use Rattle.chart_layout.specs.declared.finding.Way.TheVariants.{Level, Early}
use Rattle.chart_layout.specs.Layouts.{IsDrawing}
use Rattle.chart_layout.specs.Ways.{IsArrival, IsWay, HasNoWay, HaveNoArrival, HaveNoWay, IsNextAlone}

-- the line from which the search goes on after a row: its event's, or its message's sender's
abbrev pub line_of : Row → ℕ
line_of (Message send receive) = send.instance
line_of (Event event) = event.instance

-- the line of the last of these rows; without rows it is line p
abbrev pub last_from : ℕ → List Row → ℕ
last_from p [] = p
last_from p (row ∷ rows) = last_from (line_of row) rows

-- the line from which the search for the next row begins
abbrev pub last_line : List Row → ℕ
last_line rows = last_from 1 rows

-- the line on which a row is found: its event's, or its message's receiver's
abbrev pub sought_on : Row → ℕ
sought_on (Message send receive) = receive.instance
sought_on (Event event) = event.instance

-- the row is found on this line, or otherwise neither this line nor any line before the row's own has one
abbrev pub IsFirst : Chart → List Row → Way → ℕ → Row → Type 0
IsFirst c rows way line row = (sought_on row ≡ line)
    ⊎ ((p : ℕ) → (suc p ≡ line) ⊎ (suc p < sought_on row) → HasNoWay c rows way p)

-- the row may come next in this way, and is on the last row's line, or otherwise on the first line that has one
abbrev pub IsSought : Chart → List Row → Way → Row → Type 0
IsSought c rows way row = IsWay c rows way row × IsFirst c rows way (last_line rows) row

-- the receive is the one whose send is highest, among those that may come next
abbrev pub IsHighest : Chart → List Row → Place → Type 0
IsHighest c rows e = (i : ℕ) × IsArrival c rows e i × ((x : Place) (j : ℕ) → IsArrival c rows x j → i ≤ j)

-- the row is the next one of n lines: the receive whose send is highest; if there is none, a message; and if there is
-- neither, a send
abbrev pub IsPicked : Chart → ℕ → List Row → Row → Type 0
IsPicked c n rows (Message send receive) = HaveNoArrival c n rows × IsSought c rows Level (Message send receive)
IsPicked c n rows (Event event) = IsHighest c rows (place_of event)
    ⊎ (HaveNoArrival c n rows × HaveNoWay c n rows Level × IsSought c rows Early (Event event))

-- Turns say whose event comes next, one after another.

-- the first of the turns is this instance's
abbrev pub HasTurn : List ℕ → ℕ → Type 0
HasTurn [] p = ⊥
HasTurn (q ∷ turns) p = q ≡ p

-- the turns after the first one
abbrev pub later : List ℕ → List ℕ
later [] = []
later (p ∷ turns) = turns

-- the row is that of the first turns: a message, if the turn after its sender's is its receiver's; or an event that may
-- come next, and is no send of such a message
abbrev pub IsTurn : Chart → List Row → List ℕ → Row → Type 0
IsTurn c rows turns (Message send receive) = HasTurn turns send.instance × HasTurn (later turns) receive.instance
    × IsWay c rows Level (Message send receive)
IsTurn c rows turns (Event event) = HasTurn turns event.instance × IsNextAlone c rows (place_of event)
    × ((r : EventNo) → HasTurn (later turns) r.instance → IsWay c rows Level (Message event r) → ⊥)

-- the row comes next when these turns are left: it is theirs or, if they have none, the one that is picked
abbrev pub Comes : Chart → ℕ → List Row → List ℕ → Row → Type 0
Comes c n rows turns row = IsTurn c rows turns row
    ⊎ (((x : Row) → IsTurn c rows turns x → ⊥) × IsPicked c n rows row)

-- the instances whose events are in these rows, from the top down: for a message its sender, and then its receiver
abbrev pub actors_of : Row → List ℕ
actors_of (Message send receive) = send.instance ∷ receive.instance ∷ []
actors_of (Event event) = event.instance ∷ []

abbrev pub actors : List Row → List ℕ
actors rows = flat_map actors_of rows

-- the rows draw the chart, and each comes next below those above it, by the turns that are left after each event above
-- had one. A chart without an order of its own has no turns
pub record IsLayout (lines : List LineView) (turns : List ℕ) (rows : List Row) : Type 0 where
  pub drawing : IsDrawing lines rows
  pub comes : (i : ℕ) (row : Row) → slice_get rows i ≡ Some row
      → Comes (chart_lines lines) (length lines) (take i rows) (drop (length (actors (take i rows))) turns) row

-- a chart has only one layout for its turns
abbrev pub OneLayoutLaw : Type 0
OneLayoutLaw = (lines : List LineView) (turns : List ℕ) (one other : List Row) → IsLayout lines turns one
    → IsLayout lines turns other → one ≡ other
