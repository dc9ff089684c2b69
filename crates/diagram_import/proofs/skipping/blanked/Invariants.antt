use Rattle.std.proofs.Common.{◌≡◌, ◌++◌, drop}
use Rattle.diagram_import.specs.Skipping.{blanked_from}
use Rattle.diagram_import.proofs.skipping.blanked.Given as goal

abbrev pub invariant-loop-byte : goal.invariant-loop-byte
invariant-loop-byte l = l.bytes.items ++ blanked_from l.skips l.line (drop l.byte-index l.text) ≡ blanked_from l.skips 1 l.text
