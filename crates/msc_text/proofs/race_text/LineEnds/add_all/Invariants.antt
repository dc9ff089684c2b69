use Rattle.std.proofs.Common.{take}
use Rattle.std.specs.List.{flat_map}
use Rattle.msc_text.proofs.RaceTexts.{range_lines}
use Rattle.msc_text.specs.MadeLines.{IsMade}
use Rattle.texts.specs.Writing.{Buffers}
use Rattle.msc_text.proofs.race_text.LineEnds.add_all.Given as goal

-- the races of the ranges so far were added
abbrev pub invariant-loop-range : goal.invariant-loop-range
invariant-loop-range g l =
    Buffers g.W.Out.sink l.initial.text l.text (flat_map (range_lines l.self.front l.self.end) (take l.range-index l.earlier))
    × IsMade l.self.front l.self.end l.made
