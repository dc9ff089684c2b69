use Rattle.std.proofs.Common.{◌≡◌, ◌++◌, drop}
use Rattle.diagram_mscgen.specs.Reading.Texts.{text_from}
use Rattle.diagram_mscgen.specs.declared.reading.quoted.Mode.TheVariants.{Plain}
use Rattle.diagram_mscgen.proofs.reading.quoted.text_of.Given as goal

abbrev pub invariant-loop-byte : goal.invariant-loop-byte
invariant-loop-byte l = l.read.items ++ text_from l.mode (drop l.byte-index l.raw) ≡ text_from Plain l.raw
