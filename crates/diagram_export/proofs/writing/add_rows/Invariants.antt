use Rattle.std.proofs.Common.{take}
use Rattle.std.specs.List.{flat_map}
use Rattle.texts.specs.Writing.{Buffers}
use Rattle.diagram_export.specs.ExportText.{row_text}
use Rattle.diagram_export.proofs.writing.add_rows.Given as goal

-- the rows so far were added
abbrev pub invariant-loop-row : goal.invariant-loop-row
invariant-loop-row g l = Buffers g.W.Out.sink l.initial.text l.text (flat_map (row_text l.export) (take l.row-index l.rows))
