use Rattle.std.proofs.Common.{take}
use Rattle.std.specs.List.{flat_map}
use Rattle.chart.specs.Ranges.{events_of}
use Rattle.msc_text.specs.MadeLines.{IsMade}
use Rattle.msc_text.specs.RaceText.{race_line}
use Rattle.texts.specs.Writing.{Buffers}
use Rattle.msc_text.proofs.race_text.LineEnds.add_range.Given as goal

-- the races so far were added
abbrev pub invariant-loop-number : goal.invariant-loop-number
invariant-loop-number g l =
    Buffers g.W.Out.sink l.initial.text l.text (flat_map (race_line l.self.front l.self.end) (take l.number (events_of l.earlier)))
    × IsMade l.self.front l.self.end l.made
