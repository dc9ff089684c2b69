use Rattle.std.proofs.Common.{◌≡◌, length, filter}
use Rattle.shown_races.specs.Kept.{is_kept_after}
use Rattle.races_text.proofs.named.kept.next_kept.Given as goal

-- no shown event was passed over
abbrev pub invariant-loop-event : goal.invariant-loop-event
invariant-loop-event l = filter (is_kept_after l.events l.only l.passed) l.initial.coming ≡ filter (is_kept_after l.events l.only l.passed) l.coming

abbrev pub decreases-loop-event : goal.decreases-loop-event
decreases-loop-event l = length l.coming
