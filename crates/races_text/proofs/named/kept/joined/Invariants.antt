use Rattle.std.proofs.Common.{◌≡◌, length}
use Rattle.chart.specs.Ranges.{IsRange, range_before}
use Rattle.races_text.specs.Named.Kept.{kept_after}
use Rattle.races_text.proofs.NamedLemmas.Joined.{one}
use Rattle.races_text.proofs.named.kept.joined.Given as goal

-- the range has the shown events that were passed over
abbrev pub invariant-loop-event : goal.invariant-loop-event
invariant-loop-event l =
    (range_before (one l.fn.first) (kept_after l.events l.only l.passed l.initial.coming) ≡ range_before l.range (kept_after l.events l.only l.passed l.coming)) × IsRange l.range

abbrev pub decreases-loop-event : goal.decreases-loop-event
decreases-loop-event l = length l.coming
