use Rattle.std.proofs.Common.{◌≡◌, false, drop}
use Rattle.diagram_import.specs.Skipping.{lines_from}
use Rattle.diagram_import.proofs.skipping.count_of_lines.Given as goal

abbrev pub invariant-loop-byte : goal.invariant-loop-byte
invariant-loop-byte l = lines_from l.count l.begun (drop l.byte-index l.text) ≡ lines_from 0 false l.text
