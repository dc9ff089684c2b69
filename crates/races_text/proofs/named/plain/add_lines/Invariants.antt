use Rattle.std.proofs.Common.{◌≡◌, List, ◌++◌, length}
use Rattle.chart.specs.declared.ranges.EventRange.{EventRange}
use Rattle.texts.specs.Writing.{Buffers}
use Rattle.races_text.specs.Named.PlainText.{lines_text}
use Rattle.races_text.specs.Named.Listing.{has_ranges}
use Rattle.races_text.proofs.named.plain.add_lines.Given as goal

-- the earlier ranges were added
abbrev pub invariant-loop-range : goal.invariant-loop-range
invariant-loop-range g l =
    (done : List EventRange) × (l.fn.ranges ≡ done ++ l.ranges) × Buffers g.W.Out.sink l.initial.text l.text (lines_text l.names l.events l.receive done) × (l.has ≡ has_ranges done)

abbrev pub decreases-loop-range : goal.decreases-loop-range
decreases-loop-range g l = length l.ranges
