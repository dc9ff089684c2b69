use Rattle.std.proofs.Common.{◌≡◌, drop, map}
use Rattle.log_lines.specs.ByWords.{with_clocked}
use Rattle.log_lines.specs.Events.{clocked_at_view}
use Rattle.log_lines.specs.Reading.{read_view}
use Rattle.log_lines.proofs.worded.by_words.Given as goal

abbrev pub invariant-loop-event : goal.invariant-loop-event
invariant-loop-event l =
    with_clocked (map clocked_at_view (drop l.event-index l.event-items)) (read_view l.joined)
    ≡ with_clocked (map clocked_at_view l.event-items) (read_view l.initial.joined)
