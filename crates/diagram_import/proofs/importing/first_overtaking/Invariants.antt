use Rattle.std.proofs.Common.{◌≡◌, drop}
use Rattle.diagram_import.specs.Importing.{first_overtaking}
use Rattle.diagram_import.proofs.importing.first_overtaking.Given as goal

abbrev pub invariant-loop-message : goal.invariant-loop-message
invariant-loop-message l = first_overtaking l.first (drop l.message-index l.overtaking) ≡ first_overtaking l.fn.so_far l.overtaking
