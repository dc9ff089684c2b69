use Rattle.std.proofs.Common.{take}
use Rattle.std.specs.List.{flat_map}
use Rattle.msc_text.specs.ChartText.{line_text}
use Rattle.texts.specs.Writing.{Buffers}
use Rattle.msc_text.proofs.chart_text.add_lines.Given as goal

-- the lines so far were added
abbrev pub invariant-loop-line : goal.invariant-loop-line
invariant-loop-line g l =
    Buffers g.W.Out.sink l.initial.text l.text (flat_map (line_text l.names) (take l.line-index l.lines))
