use Rattle.std.proofs.Common.{take}
use Rattle.std.specs.List.{flat_map}
use Rattle.texts.specs.Writing.{Buffers}
use Rattle.cmd_base.specs.Pairs.SayingText.{step_text}
use Rattle.cmd_base.proofs.pairs.saying.add_steps.Given as goal

-- the lines so far were added
abbrev pub invariant-loop-link : goal.invariant-loop-link
invariant-loop-link g l =
    Buffers g.W.Out.sink l.initial.text l.text (flat_map (step_text l.names) (take l.link-index l.links))
