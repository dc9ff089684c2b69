use Rattle.std.proofs.Common.{◌≡◌, [], drop, map}
use Rattle.log_lines.specs.Events.{clocked_at_view}
use Rattle.log_formats.specs.Clocks.Moments.{moment_view, with_moments}
use Rattle.log_formats.proofs.clocks.moment.moments_of.Given as goal

abbrev pub invariant-loop-event : goal.invariant-loop-event
invariant-loop-event l =
    with_moments (map moment_view l.moments.items) (map clocked_at_view (drop l.event-index l.events)) ≡ with_moments [] (map clocked_at_view l.events)
