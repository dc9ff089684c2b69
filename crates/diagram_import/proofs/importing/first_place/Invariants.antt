use Rattle.std.proofs.Common.{◌≡◌, None, drop}
use Rattle.diagram_import.specs.Importing.{first_place}
use Rattle.diagram_import.proofs.importing.first_place.Given as goal

abbrev pub invariant-loop-kind : goal.invariant-loop-kind
invariant-loop-kind l = first_place l.first (drop l.kind-index l.left_out) ≡ first_place None l.left_out
