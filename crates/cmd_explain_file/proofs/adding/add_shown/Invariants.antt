use Rattle.std.proofs.Common.{take}
use Rattle.std.specs.List.{flat_map}
use Rattle.cmd_explain_file.proofs.adding.add_shown.Given as goal
use Rattle.cmd_explain_file.specs.Sayings.{shown_byte}
use Rattle.texts.specs.Writing.{Buffers}

-- the bytes so far were added
abbrev pub invariant-loop-byte : goal.invariant-loop-byte
invariant-loop-byte g l = Buffers g.W.Out.sink l.initial.text l.text (flat_map shown_byte (take l.byte-index l.bytes))
