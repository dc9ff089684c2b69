use Rattle.std.proofs.Common.{take}
use Rattle.std.specs.List.{flat_map}
use Rattle.texts.specs.Writing.{Buffers}
use Rattle.cmd_compare.specs.Comparisons.{line_text}
use Rattle.cmd_compare.proofs.comparison_text.add_lines.Given as goal

-- the lines so far were added
abbrev pub invariant-loop-line : goal.invariant-loop-line
invariant-loop-line g l =
    Buffers g.W.Out.sink l.initial.text l.text (flat_map (line_text l.form (l.first.names.now, l.first.lines.now) (l.second.names.now, l.second.lines.now)) (take l.line-index l.lines))
