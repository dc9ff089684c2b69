use Rattle.std.proofs.Common.{take}
use Rattle.std.specs.List.{flat_map}
use Rattle.texts.specs.Writing.{Buffers}
use Rattle.cmd_import_log.specs.Answers.AlikeHosts.{alike_text}
use Rattle.cmd_import_log.proofs.answers.alike.add_all_alike.Given as goal

-- the text of the elements so far was added
abbrev pub invariant-loop-hosts : goal.invariant-loop-hosts
invariant-loop-hosts g l = Buffers g.V.Out.sink l.initial.text l.text (flat_map alike_text (take l.hosts-index l.alike))
