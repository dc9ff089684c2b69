use Rattle.std.proofs.Common.{take}
use Rattle.std.specs.List.{flat_map}
use Rattle.texts.specs.Writing.{Buffers}
use Rattle.schedule_threads.specs.RunText.{spent_text}
use Rattle.schedule_threads.proofs.text.add_spent.Given as goal

-- the lines so far were added
abbrev pub invariant-loop-name : goal.invariant-loop-name
invariant-loop-name g l =
    Buffers g.W.Out.sink l.initial.text l.text (flat_map spent_text (take l.name-index l.names))
