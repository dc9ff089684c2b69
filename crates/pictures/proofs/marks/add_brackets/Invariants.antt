use Rattle.std.proofs.Common.{take}
use Rattle.std.specs.List.{flat_map}
use Rattle.texts.specs.Writing.{Buffers}
use Rattle.pictures.specs.MarkText.{bracket_text}
use Rattle.pictures.proofs.marks.add_brackets.Given as goal

-- the brackets so far were added
abbrev pub invariant-loop-range : goal.invariant-loop-range
invariant-loop-range g l = Buffers g.W.Out.sink l.initial.text l.text (flat_map (bracket_text l.picture l.receive) (take l.range-index l.ranges))
