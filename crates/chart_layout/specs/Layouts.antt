-- Drawings of a chart in rows, of one message or one event each. They follow the graphical form of ITU-T Z.120, in
-- which a message is an arrow from its output to its input event. That a row has one message or one event is this
-- project's profile.
use Rattle.std.specs.Prelude.{◌≡◌, ℕ, suc, ◌+◌, ◌<◌, ◌==◌, ◌&&◌, ◌||◌, Bool, List, [], ◌∷◌, ◌++◌, length, slice_get, Option, None, Some, option_map, if◌then◌else◌}
use Rattle.std.specs.List.{range_with_len}
use Rattle.chart.specs.declared.instance.EventNo.{EventNo}
use Rattle.chart.specs.Charts.{Place, LineView, BelongsTo, chart_lines}
use Rattle.closure.specs.Faults.{place_of}
use Rattle.chart_layout.specs.declared.row.Row.{Row}
use Rattle.chart_layout.specs.declared.row.Row.TheVariants.{Message, Event}

-- the number of an event, if it is one of p's
abbrev pub number_on : ℕ → EventNo → List ℕ
number_on p e = if e.instance == p then e.index ∷ [] else []

-- the numbers of p's events in a row
abbrev pub row_on : ℕ → Row → List ℕ
row_on p (Message send receive) = number_on p send ++ number_on p receive
row_on p (Event event) = number_on p event

-- the numbers of p's events in rows, from the top down
abbrev pub laid_out : List Row → ℕ → List ℕ
laid_out [] p = []
laid_out (row ∷ rows) p = row_on p row ++ laid_out rows p

-- the event is at this place
abbrev pub is_at : Place → EventNo → Bool
is_at e x = x.instance == e.instance && x.index == e.index

-- the row has the event at this place
abbrev pub has_event : Place → Row → Bool
has_event e (Message send receive) = is_at e send || is_at e receive
has_event e (Event event) = is_at e event

-- the number, from 0, of the row that has the event; none if no row has it
abbrev pub row_of : List Row → Place → Option ℕ
row_of [] e = None
row_of (row ∷ rows) e = if has_event e row then Some 0 else option_map suc (row_of rows e)

-- below these rows the event is the next of its line
abbrev pub IsNext : List Row → Place → Type 0
IsNext rows e = e.index ≡ length (laid_out rows e.instance) + 1

-- the events of each line that these rows have are its first ones, in their order
abbrev pub AreInOrder : List Row → Type 0
AreInOrder rows = (p : ℕ) → laid_out rows p ≡ range_with_len 1 (length (laid_out rows p))

-- the rows draw the chart: each line's events go down in order; the ends of a message in one row belong together; and a
-- receive alone is lower than its send
pub record IsDrawing (lines : List LineView) (rows : List Row) : Type 0 where
  pub order : (p : ℕ) → laid_out rows p ≡ range_with_len 1 (length (chart_lines lines p))
  pub level : (i : ℕ) (s r : EventNo) → slice_get rows i ≡ Some (Message s r)
      → BelongsTo (chart_lines lines) (place_of s) (place_of r)
  pub lower : (i : ℕ) (e : EventNo) (s : Place) → slice_get rows i ≡ Some (Event e)
      → BelongsTo (chart_lines lines) s (place_of e) → (j : ℕ) × (row_of rows s ≡ Some j) × (j < i)
