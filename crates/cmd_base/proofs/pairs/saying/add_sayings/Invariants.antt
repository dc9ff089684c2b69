use Rattle.std.proofs.Common.{take}
use Rattle.std.specs.List.{flat_map}
use Rattle.texts.specs.Writing.{Buffers}
use Rattle.cmd_base.specs.Pairs.SayingText.{saying_text}
use Rattle.cmd_base.proofs.pairs.saying.add_sayings.Given as goal

-- the lines so far were added
abbrev pub invariant-loop-saying : goal.invariant-loop-saying
invariant-loop-saying g l =
    Buffers g.W.Out.sink l.initial.text l.text (flat_map (saying_text l.names l.events) (take l.saying-index l.sayings))
