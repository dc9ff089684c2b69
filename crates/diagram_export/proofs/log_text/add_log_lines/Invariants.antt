use Rattle.std.proofs.Common.{take}
use Rattle.std.specs.List.{flat_map}
use Rattle.texts.specs.Writing.{Buffers}
use Rattle.diagram_export.specs.LogText.{log_line}
use Rattle.diagram_export.proofs.log_text.add_log_lines.Given as goal

-- the lines so far were added
abbrev pub invariant-loop-stamped : goal.invariant-loop-stamped
invariant-loop-stamped g l = Buffers g.W.Out.sink l.initial.text l.text (flat_map (log_line l.export) (take l.stamped-index l.log))
