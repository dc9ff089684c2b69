use Rattle.std.proofs.Common.{◌≡◌, ◌++◌, map, drop}
use Rattle.log_chart.specs.Begun.{heads_to}
use Rattle.log_chart.specs.Items.{invented}
use Rattle.log_chart.proofs.host_line.push_heads_to.Given as goal

abbrev pub invariant-loop-begun : goal.invariant-loop-begun
invariant-loop-begun l =
    l.items.items ++ map (invented l.receiver) (heads_to (drop l.begun-index l.heads) l.receiver) ≡ l.fn.items.items ++ map (invented l.receiver) (heads_to l.heads l.receiver)
