use Rattle.std.proofs.Common.{ℕ, List, take}
use Rattle.repair.specs.Naming.{have_more, HaveNames}
use Rattle.repair.proofs.naming.add_names.Given as goal

abbrev pub invariant-loop-event : goal.invariant-loop-event
invariant-loop-event l = (all : List (List ℕ)) → HaveNames l.initial.names all → HaveNames l.names (have_more all (take l.event-index l.events))
