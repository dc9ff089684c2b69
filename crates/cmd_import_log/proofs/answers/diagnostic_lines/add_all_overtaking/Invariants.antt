use Rattle.std.proofs.Common.{map, take}
use Rattle.std.specs.List.{flat_map}
use Rattle.texts.specs.Writing.{Buffers}
use Rattle.cmd_import_log.specs.Answers.DiagnosticLines.{overtaking_text}
use Rattle.cmd_import_log.proofs.answers.diagnostic_lines.add_all_overtaking.Given as goal

-- the text of the elements so far was added
abbrev pub invariant-loop-message : goal.invariant-loop-message
invariant-loop-message g l = Buffers g.V.Out.sink l.initial.text l.text (flat_map (overtaking_text (map (λ file. file.now) l.files)) (take l.message-index l.overtaking))
