use Rattle.std.proofs.Common.{◌≡◌, List, ◌++◌, length}
use Rattle.chart.specs.declared.instance.EventNo.{EventNo}
use Rattle.chart.specs.Ranges.{events_in}
use Rattle.races_text.specs.Judged.Parts.{AreLongest, AreParts}
use Rattle.races_text.specs.Judged.PartsLeft.{listed, events_left, AreLeft}
use Rattle.races_text.proofs.judged.range_parts.all_parts.Given as goal

-- the parts so far are those of the first events
abbrev pub invariant-loop-part : goal.invariant-loop-part
invariant-loop-part g l =
    (begun : List EventNo) × (events_in l.earlier ≡ begun ++ events_left l.left)
    × AreLeft (g.V.Verdicts.is_race l.verdicts l.receive) (g.V.Verdicts.is_verdict l.verdicts l.receive) l.left
    × AreParts (g.V.Verdicts.is_verdict l.verdicts l.receive) begun l.parts.items × AreLongest (l.parts.items ++ listed l.left.next)

abbrev pub decreases-loop-part : goal.decreases-loop-part
decreases-loop-part g l = length (events_left l.left)
