use Rattle.std.proofs.Common.{take}
use Rattle.std.specs.List.{flat_map}
use Rattle.texts.specs.Writing.{Buffers}
use Rattle.texts.specs.Pieces.RaceWords.{next_range}
use Rattle.texts.proofs.pieces.race_words.add_next_ranges.Given as goal

-- the ranges so far were added
abbrev pub invariant-loop-range : goal.invariant-loop-range
invariant-loop-range g l = Buffers g.W.Out.sink l.initial.text l.text (flat_map (next_range) (take l.range-index l.ranges))
