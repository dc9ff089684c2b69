use Rattle.std.proofs.Common.{◌≡◌, ℕ, suc, List, length, Some}
use Rattle.std.specs.Prelude.{slice_get}
use Rattle.chart.specs.Charts.{chart_lines}
use Rattle.reordering.specs.declared.completion.last_sends.LastSends.{LastSends}
use Rattle.reordering.specs.Completion.Tables.{IsRowOf}
use Rattle.reordering.proofs.completion.completion.Completion.of.Given as goal

-- a row for each line so far
abbrev pub invariant-loop-line : goal.invariant-loop-line
invariant-loop-line l = (length l.rows.items ≡ l.line) × ((p : ℕ) (row : List LastSends) → slice_get l.rows.items p ≡ Some row → IsRowOf (chart_lines l.lines (suc p)) row)
