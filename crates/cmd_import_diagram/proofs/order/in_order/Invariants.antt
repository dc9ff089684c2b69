use Rattle.std.proofs.Common.{◌≡◌, [], drop}
use Rattle.cmd_import_diagram.specs.Order.{in_order_with}
use Rattle.cmd_import_diagram.proofs.order.in_order.Given as goal

abbrev pub invariant-loop-kind : goal.invariant-loop-kind
invariant-loop-kind l = in_order_with l.ordered.items (drop l.kind-index l.left_out) ≡ in_order_with [] l.left_out
