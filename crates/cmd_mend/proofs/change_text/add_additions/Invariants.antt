use Rattle.std.proofs.Common.{take}
use Rattle.std.specs.List.{flat_map}
use Rattle.texts.specs.Writing.{Buffers}
use Rattle.cmd_mend.specs.ChangeText.{addition_text}
use Rattle.cmd_mend.proofs.change_text.add_additions.Given as goal

-- those so far were added
abbrev pub invariant-loop-addition : goal.invariant-loop-addition
invariant-loop-addition g l = Buffers g.V.Out.sink l.initial.text l.text (flat_map (addition_text l.names) (take l.addition-index l.additions))
