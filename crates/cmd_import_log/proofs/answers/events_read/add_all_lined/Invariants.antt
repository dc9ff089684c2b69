use Rattle.std.proofs.Common.{take}
use Rattle.std.specs.List.{flat_map}
use Rattle.texts.specs.Writing.{Buffers}
use Rattle.cmd_import_log.specs.Answers.EventsRead.{lined_text}
use Rattle.cmd_import_log.proofs.answers.events_read.add_all_lined.Given as goal

-- the text of the elements so far was added
abbrev pub invariant-loop-name : goal.invariant-loop-name
invariant-loop-name g l = Buffers g.V.Out.sink l.initial.text l.text (flat_map lined_text (take l.name-index l.names))
