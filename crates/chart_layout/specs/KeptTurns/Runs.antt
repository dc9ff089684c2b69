-- Turns of a run of a chart, which a layout keeps (this project's own).
use Rattle.std.specs.Prelude.{◌≡◌, ℕ, ◌+◌, ◌≤◌, ◌==◌, List, [], ◌∷◌, length, take, slice_get, Some, if◌then◌else◌}
use Rattle.chart.specs.Charts.{Chart, Place, LineView, BelongsTo, at, chart_lines}
use Rattle.chart_layout.specs.declared.row.Row.{Row}
use Rattle.chart_layout.specs.Picking.{IsLayout, actors}

-- the number of this instance's turns
unfoldable pub times : ℕ → List ℕ → ℕ
times p [] = 0
times p (q ∷ turns) = (if q == p then 1 else 0) + times p turns

-- the turns are those of a run of the chart, from its first event on: each event of each line has one, and no receive
-- has its turn before that of its send
pub record IsRun (c : Chart) (turns : List ℕ) : Type 0 where
  pub all : (p : ℕ) → times p turns ≡ length (c p)
  pub after : (i p : ℕ) (s : Place) → slice_get turns i ≡ Some p → BelongsTo c s (at p (times p (take i turns) + 1))
      → s.index ≤ times s.instance (take i turns)

-- the rows of a layout have the events in the order of the turns, if these are those of a run
abbrev pub KeptTurnsLaw : Type 0
KeptTurnsLaw = (lines : List LineView) (turns : List ℕ) (rows : List Row) → IsRun (chart_lines lines) turns
    → IsLayout lines turns rows → actors rows ≡ turns
