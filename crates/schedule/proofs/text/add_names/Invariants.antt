use Rattle.std.proofs.Common.{take}
use Rattle.std.specs.List.{flat_map}
use Rattle.texts.specs.Writing.{Buffers}
use Rattle.schedule.specs.WrittenLines.{behind_space}
use Rattle.schedule.proofs.text.add_names.Given as goal

-- the names so far were added
abbrev pub invariant-loop-place : goal.invariant-loop-place
invariant-loop-place g l =
    Buffers g.W.Out.sink l.initial.text l.text (flat_map behind_space (take l.place l.names))
