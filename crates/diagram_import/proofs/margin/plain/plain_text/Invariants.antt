use Rattle.std.proofs.Common.{◌≡◌, ◌++◌, false, drop}
use Rattle.diagram_import.specs.Margin.Plain.{plain_from}
use Rattle.diagram_import.proofs.margin.plain.plain_text.Given as goal

abbrev pub invariant-loop-byte : goal.invariant-loop-byte
invariant-loop-byte l = l.element.items ++ plain_from l.escaped (drop l.byte-index l.raw) ≡ plain_from false l.raw
