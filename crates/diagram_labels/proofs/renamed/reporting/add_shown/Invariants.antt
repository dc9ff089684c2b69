use Rattle.std.proofs.Common.{take}
use Rattle.std.specs.List.{flat_map}
use Rattle.texts.specs.Writing.{Buffers}
use Rattle.diagram_labels.specs.Renamed.Reporting.{shown_byte}
use Rattle.diagram_labels.proofs.renamed.reporting.add_shown.Given as goal

-- the bytes so far were added
abbrev pub invariant-loop-byte : goal.invariant-loop-byte
invariant-loop-byte g l = Buffers g.V.Out.sink l.initial.text l.text (flat_map shown_byte (take l.byte-index l.label))
