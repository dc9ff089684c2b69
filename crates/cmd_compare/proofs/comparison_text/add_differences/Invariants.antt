use Rattle.std.proofs.Common.{take}
use Rattle.std.specs.List.{flat_map}
use Rattle.texts.specs.Writing.{Buffers}
use Rattle.cmd_compare.specs.Comparisons.{difference_text}
use Rattle.cmd_compare.proofs.comparison_text.add_differences.Given as goal

-- the lines so far were added
abbrev pub invariant-loop-difference : goal.invariant-loop-difference
invariant-loop-difference g l =
    Buffers g.W.Out.sink l.initial.text l.text (flat_map (difference_text l.form l.line.names.now l.line.events.now) (take l.difference-index l.differences))
