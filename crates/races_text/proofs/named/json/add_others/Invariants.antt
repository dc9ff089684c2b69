use Rattle.std.proofs.Common.{◌≡◌, List, ◌++◌, length}
use Rattle.std.specs.List.{flat_map}
use Rattle.chart.specs.declared.ranges.EventRange.{EventRange}
use Rattle.texts.specs.Writing.{Buffers}
use Rattle.races_text.specs.Named.JsonText.{next_text}
use Rattle.races_text.proofs.named.json.add_others.Given as goal

-- the earlier ranges were added
abbrev pub invariant-loop-range : goal.invariant-loop-range
invariant-loop-range g l =
    (done : List EventRange) × (l.fn.ranges ≡ done ++ l.ranges) × Buffers g.W.Out.sink l.initial.text l.text (flat_map (next_text l.events) done)

abbrev pub decreases-loop-range : goal.decreases-loop-range
decreases-loop-range g l = length l.ranges
