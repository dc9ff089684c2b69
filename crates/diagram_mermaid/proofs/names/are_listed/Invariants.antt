use Rattle.std.proofs.Common.{◌≡◌, drop}
use Rattle.diagram_mermaid.specs.Names.{are_listed_behind, are_listed}
use Rattle.diagram_mermaid.proofs.names.are_listed.Given as goal

abbrev pub invariant-loop-byte : goal.invariant-loop-byte
invariant-loop-byte l = are_listed_behind l.before (drop l.byte-index l.bytes) ≡ are_listed l.bytes
