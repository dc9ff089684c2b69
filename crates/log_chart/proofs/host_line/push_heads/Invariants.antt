use Rattle.std.proofs.Common.{◌≡◌, ◌++◌, drop}
use Rattle.log_chart.specs.Items.{heads_in}
use Rattle.log_chart.proofs.host_line.push_heads.Given as goal

abbrev pub invariant-loop-receiver : goal.invariant-loop-receiver
invariant-loop-receiver l = l.items.items ++ heads_in l.heads (drop l.receiver-index l.hosts) ≡ l.fn.items.items ++ heads_in l.heads l.hosts
