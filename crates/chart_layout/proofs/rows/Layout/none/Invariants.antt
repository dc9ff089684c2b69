use Rattle.std.proofs.Common.{◌≡◌, [], replicate}
use Rattle.chart_layout.proofs.rows.Layout.none.Given as goal

abbrev pub invariant-loop : goal.invariant-loop
invariant-loop l = l.lines.items ≡ replicate l.counter []
