use Rattle.std.proofs.Common.{◌≡◌, ◌++◌, length}
use Rattle.cmd_import_diagram.specs.Order.{put_in}
use Rattle.cmd_import_diagram.proofs.order.put_in.Given as goal

abbrev pub invariant-kinds : goal.invariant-kinds
invariant-kinds l = l.more.items ++ put_in l.kind l.rest ≡ put_in l.kind l.ordered

abbrev pub decreases-kinds : goal.decreases-kinds
decreases-kinds l = length l.rest
