use Rattle.std.proofs.Common.{take}
use Rattle.repair.specs.Naming.{message_names, HaveNames}
use Rattle.repair.proofs.naming.names_of.Given as goal

abbrev pub invariant-loop-line : goal.invariant-loop-line
invariant-loop-line l = HaveNames l.names (message_names (take l.line-index l.lines))
