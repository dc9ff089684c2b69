use Rattle.std.proofs.Common.{◌≡◌, List, ◌++◌, length}
use Rattle.chart.specs.declared.instance.EventNo.{EventNo}
use Rattle.texts.specs.Writing.{Buffers}
use Rattle.races_text.specs.declared.judged.part.Part.{Part}
use Rattle.races_text.specs.Judged.Parts.{AreLongest, AreParts, shown_parts}
use Rattle.races_text.specs.Judged.PartsLeft.{listed, events_left, AreLeft}
use Rattle.races_text.specs.Judged.Summaries.{summary_of_parts}
use Rattle.races_text.specs.Judged.Listing.{begun_text}
use Rattle.races_text.proofs.judged.listing.add_begun.Given as goal

-- the earlier parts were added
abbrev pub invariant-loop-part : goal.invariant-loop-part
invariant-loop-part g l =
    (done : List Part) × (begun : List EventNo) × (l.fn.kept ≡ begun ++ events_left l.left)
    × AreLeft (g.V.Verdicts.is_race l.query.verdicts.now l.receive) (g.V.Verdicts.is_verdict l.query.verdicts.now l.receive) l.left
    × AreParts (g.V.Verdicts.is_verdict l.query.verdicts.now l.receive) begun done × AreLongest (done ++ listed l.left.next)
    × Buffers g.W.Out.sink l.initial.text l.text (begun_text l.query.query.form l.query.query.names.now l.events l.receive (shown_parts l.query.luck done))
    × (l.summary ≡ summary_of_parts l.query.luck done)

abbrev pub decreases-loop-part : goal.decreases-loop-part
decreases-loop-part g l = length (events_left l.left)
