use Rattle.std.proofs.Common.{take}
use Rattle.std.specs.List.{flat_map}
use Rattle.texts.specs.Writing.{Buffers}
use Rattle.diagram_labels.specs.Renamed.Reporting.{renamed_line}
use Rattle.diagram_labels.proofs.renamed.reporting.add_all_renamed.Given as goal

-- the names so far were added
abbrev pub invariant-loop-name : goal.invariant-loop-name
invariant-loop-name g l = Buffers g.V.Out.sink l.initial.text l.text (flat_map renamed_line (take l.name-index l.renamed))
