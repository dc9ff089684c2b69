use Rattle.std.proofs.Common.{take}
use Rattle.std.specs.List.{flat_map}
use Rattle.texts.specs.Writing.{Buffers}
use Rattle.diagram_export.specs.Parts.{part_text}
use Rattle.diagram_export.proofs.part.add_parts.Given as goal

-- the parts so far were added
abbrev pub invariant-loop-part : goal.invariant-loop-part
invariant-loop-part g l = Buffers g.W.Out.sink l.initial.text l.text (flat_map (part_text) (take l.part-index l.parts))
