use Rattle.std.proofs.Common.{◌≡◌, drop}
use Rattle.log_chart.specs.NameOrder.{name_of}
use Rattle.log_chart.proofs.name_order.name_of.Given as goal

abbrev pub invariant-loop-entry : goal.invariant-loop-entry
invariant-loop-entry l = name_of (drop l.entry-index l.log) l.host ≡ name_of l.log l.host
