use Rattle.std.proofs.Common.{map, take}
use Rattle.std.specs.List.{flat_map}
use Rattle.texts.specs.Writing.{Buffers}
use Rattle.cmd_import_log.specs.Answers.DiagnosticLines.{lost_text}
use Rattle.cmd_import_log.proofs.answers.diagnostic_lines.add_all_lost.Given as goal

-- the text of the elements so far was added
abbrev pub invariant-loop-place : goal.invariant-loop-place
invariant-loop-place g l = Buffers g.V.Out.sink l.initial.text l.text (flat_map (lost_text (map (λ file. file.now) l.files)) (take l.place-index l.lost))
