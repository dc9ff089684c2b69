use Rattle.std.proofs.Common.{◌≡◌, ◌<◌, true, length, filter}
use Rattle.shown_races.specs.Kept.{is_kept_after}
use Rattle.races_text.specs.Named.Stretches.{events_left, AreShort}
use Rattle.races_text.proofs.named.stretches.begin_shown.Given as goal

abbrev pub invariant-begin : goal.invariant-begin
invariant-begin l = record {
  short : AreShort l.left;
  same : filter (is_kept_after l.events l.only l.passed) (events_left l.left) ≡ filter (is_kept_after l.events l.only l.passed) (events_left l.fn.left);
  first : 0 < l.left.rest.count → is_kept_after l.events l.only l.passed l.left.rest.first ≡ true;
}

abbrev pub decreases-begin : goal.decreases-begin
decreases-begin l = length l.left.ranges.now
