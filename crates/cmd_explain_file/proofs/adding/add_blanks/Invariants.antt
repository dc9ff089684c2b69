use Rattle.std.proofs.Common.{take}
use Rattle.std.specs.List.{flat_map}
use Rattle.cmd_explain_file.proofs.adding.add_blanks.Given as goal
use Rattle.cmd_explain_file.specs.Sayings.{blank}
use Rattle.texts.specs.Writing.{Buffers}

-- the blanks so far were added
abbrev pub invariant-loop-byte : goal.invariant-loop-byte
invariant-loop-byte g l = Buffers g.W.Out.sink l.initial.text l.text (flat_map blank (take l.byte-index l.bytes))
