use Rattle.std.proofs.Common.{◌≡◌, take, filter}
use Rattle.shown_races.specs.Kept.{is_kept_after}
use Rattle.shown_races.proofs.reports.shown_report.Given as goal

abbrev pub invariant-loop-event : goal.invariant-loop-event
invariant-loop-event l = l.kept.items ≡ filter (is_kept_after l.events l.only l.passed) (take l.event-index l.event-items)
