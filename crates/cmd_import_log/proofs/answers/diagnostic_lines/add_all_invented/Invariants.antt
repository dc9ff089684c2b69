use Rattle.std.proofs.Common.{take}
use Rattle.std.specs.List.{flat_map}
use Rattle.texts.specs.Writing.{Buffers}
use Rattle.cmd_import_log.specs.Answers.DiagnosticLines.{invented_text}
use Rattle.cmd_import_log.proofs.answers.diagnostic_lines.add_all_invented.Given as goal

-- the text of the elements so far was added
abbrev pub invariant-loop-event : goal.invariant-loop-event
invariant-loop-event g l = Buffers g.V.Out.sink l.initial.text l.text (flat_map (invented_text l.names) (take l.event-index l.invented))
