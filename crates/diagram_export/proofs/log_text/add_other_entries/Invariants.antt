use Rattle.std.proofs.Common.{take}
use Rattle.std.specs.List.{flat_map}
use Rattle.texts.specs.Writing.{Buffers}
use Rattle.diagram_export.specs.LogText.{other_entry}
use Rattle.diagram_export.proofs.log_text.add_other_entries.Given as goal

-- the entries so far were added
abbrev pub invariant-loop-line : goal.invariant-loop-line
invariant-loop-line g l = Buffers g.W.Out.sink l.initial.text l.text (flat_map (other_entry l.export l.stamped) (take l.line-index l.lines))
