use Rattle.std.proofs.Common.{◌≡◌, None, drop, map}
use Rattle.log_lines.specs.Events.{logged_event_view}
use Rattle.cmd_import_log.specs.Reading.{is_captured}
use Rattle.cmd_import_log.proofs.reading.is_captured.Given as goal

abbrev pub invariant-loop-event : goal.invariant-loop-event
invariant-loop-event l = is_captured l.above (map logged_event_view (drop l.event-index l.logged)) ≡ is_captured None (map logged_event_view l.logged)
