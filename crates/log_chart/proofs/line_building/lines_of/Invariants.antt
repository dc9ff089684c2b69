use Rattle.std.proofs.Common.{◌≡◌, ◌++◌, ◌-◌, suc, length}
use Rattle.log_chart.specs.HostLines.{lines_from}
use Rattle.log_chart.proofs.line_building.lines_of.Given as goal

abbrev pub invariant-loop-place : goal.invariant-loop-place
invariant-loop-place l = l.made.items ++ lines_from l.hosts l.lines l.given (suc l.place) (length l.hosts - l.place) ≡ lines_from l.hosts l.lines l.given 1 (length l.hosts)
