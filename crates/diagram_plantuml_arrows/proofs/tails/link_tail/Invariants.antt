use Rattle.std.proofs.Common.{◌≡◌, length}
use Rattle.diagram_plantuml_arrows.specs.Tails.{link_tail}
use Rattle.diagram_plantuml_arrows.proofs.tails.link_tail.Given as goal

abbrev pub invariant-bytes : goal.invariant-bytes
invariant-bytes l = link_tail l.rest ≡ link_tail l.fn.bytes

abbrev pub decreases-bytes : goal.decreases-bytes
decreases-bytes l = length l.rest
