use Rattle.chart.specs.Charts.{at, chart_lines}
use Rattle.std.proofs.Common.{suc, length}
use Rattle.closure.specs.Rows.{IsRow}
use Rattle.closure.specs.Links.{HasPassed}
use Rattle.closure.specs.Cycle.Fronts.{IsHeard}
use Rattle.closure.proofs.cycle.hearing.heard_on.Given as goal

abbrev pub invariant-loop-place : goal.invariant-loop-place
invariant-loop-place l = HasPassed (chart_lines l.lines) (length l.lines) l.line l.place l.passed × IsHeard l.lines (at (suc l.line) (suc l.place)) l.passed × IsRow (IsHeard l.lines) (suc l.line) l.place l.fronts
