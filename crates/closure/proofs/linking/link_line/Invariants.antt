use Rattle.chart.specs.Charts.{chart_lines}
use Rattle.std.proofs.Common.{suc, length}
use Rattle.closure.specs.Rows.{IsRow}
use Rattle.closure.specs.Links.{IsPartner, HasPassed}
use Rattle.closure.proofs.linking.link_line.Given as goal

abbrev pub invariant-loop-place : goal.invariant-loop-place
invariant-loop-place l = HasPassed (chart_lines l.lines) (length l.lines) l.line l.place l.passed × IsRow (IsPartner l.lines) (suc l.line) l.place l.row
