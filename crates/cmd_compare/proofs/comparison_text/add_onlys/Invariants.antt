use Rattle.std.proofs.Common.{take}
use Rattle.std.specs.List.{flat_map}
use Rattle.texts.specs.Writing.{Buffers}
use Rattle.cmd_compare.specs.Comparisons.{only_text}
use Rattle.cmd_compare.proofs.comparison_text.add_onlys.Given as goal

-- the lines so far were added
abbrev pub invariant-loop-number : goal.invariant-loop-number
invariant-loop-number g l =
    Buffers g.W.Out.sink l.initial.text l.text (flat_map (only_text l.form l.owner l.line.names.now l.line.events.now l.line.instance) (take l.number-index l.numbers))
