use Rattle.std.proofs.Common.{◌≡◌, take}
use Rattle.chart_layout.proofs.EndLemmas.{unknown_lines}
use Rattle.chart_layout.proofs.ends.unknown.Given as goal

abbrev pub invariant-loop-line : goal.invariant-loop-line
invariant-loop-line l = l.ends.items ≡ unknown_lines (take l.line-index l.lines)
