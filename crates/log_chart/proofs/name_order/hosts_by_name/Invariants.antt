use Rattle.std.proofs.Common.{◌≡◌}
use Rattle.log_chart.specs.NameOrder.{by_name}
use Rattle.log_chart.proofs.name_order.hosts_by_name.Given as goal

abbrev pub invariant-loop-place : goal.invariant-loop-place
invariant-loop-place l = l.hosts.items ≡ by_name l.place l.log
