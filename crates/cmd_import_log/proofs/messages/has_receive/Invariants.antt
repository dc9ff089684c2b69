use Rattle.std.proofs.Common.{◌≡◌, drop, map}
use Rattle.log_lines.specs.Events.{logged_event_view}
use Rattle.cmd_import_log.specs.Reading.{has_receive}
use Rattle.cmd_import_log.proofs.messages.has_receive.Given as goal

abbrev pub invariant-loop-line : goal.invariant-loop-line
invariant-loop-line l = has_receive (map logged_event_view (drop l.line-index l.logged)) ≡ has_receive (map logged_event_view l.logged)
