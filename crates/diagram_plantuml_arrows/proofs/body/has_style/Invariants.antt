use Rattle.std.proofs.Common.{◌≡◌, true, length}
use Rattle.diagram_plantuml_arrows.specs.Bodies.{has_style}
use Rattle.diagram_plantuml_arrows.proofs.body.has_style.Given as goal

abbrev pub invariant-bytes : goal.invariant-bytes
invariant-bytes l = has_style l.begins l.word l.rest ≡ has_style true l.word l.fn.style

abbrev pub decreases-bytes : goal.decreases-bytes
decreases-bytes l = length l.rest
