use Rattle.std.proofs.Common.{take}
use Rattle.std.specs.List.{flat_map}
use Rattle.texts.specs.Writing.{Buffers}
use Rattle.cmd_mend.specs.ChangeText.{race_line}
use Rattle.cmd_mend.proofs.change_text.add_ranges.Given as goal

-- those so far were added
abbrev pub invariant-loop-range : goal.invariant-loop-range
invariant-loop-range g l = Buffers g.V.Out.sink l.initial.text l.text (flat_map (race_line l.word l.names l.events l.receive) (take l.range-index l.ranges))
