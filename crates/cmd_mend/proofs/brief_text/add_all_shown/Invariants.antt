use Rattle.std.proofs.Common.{take}
use Rattle.std.specs.List.{flat_map}
use Rattle.texts.specs.Writing.{Buffers}
use Rattle.cmd_mend.specs.Brief.{shown_text}
use Rattle.cmd_mend.proofs.brief_text.add_all_shown.Given as goal

-- those so far were added
abbrev pub invariant-loop-one : goal.invariant-loop-one
invariant-loop-one g l = Buffers g.V.Out.sink l.initial.text l.text (flat_map (shown_text l.names l.old l.new) (take l.one-index l.shown))
