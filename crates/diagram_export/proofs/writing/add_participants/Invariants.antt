use Rattle.std.proofs.Common.{take}
use Rattle.std.specs.List.{flat_map}
use Rattle.texts.specs.Writing.{Buffers}
use Rattle.diagram_export.specs.ExportText.{participant}
use Rattle.diagram_export.proofs.writing.add_participants.Given as goal

-- the participants so far were added
abbrev pub invariant-loop-line : goal.invariant-loop-line
invariant-loop-line g l = Buffers g.W.Out.sink l.initial.text l.text (flat_map (participant l.export) (take l.line-index l.lines))
