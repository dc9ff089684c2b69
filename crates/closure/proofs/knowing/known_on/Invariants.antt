use Rattle.std.proofs.Common.{suc, length}
use Rattle.chart.specs.Charts.{chart_lines}
use Rattle.closure.specs.Rows.{IsRow}
use Rattle.closure.specs.Searches.{IsSearchAfter, IsKnowledge}
use Rattle.closure.proofs.knowing.known_on.Given as goal

abbrev pub invariant-loop-place : goal.invariant-loop-place
invariant-loop-place l = IsSearchAfter (chart_lines l.linked) (length l.linked) l.line l.place l.search.fronts l.search.seen × IsRow (IsKnowledge (chart_lines l.linked)) (suc l.line) l.place l.row
