use Rattle.std.proofs.Common.{◌≡◌, take, filter}
use Rattle.repair.specs.Growing.{message_of}
use Rattle.cmd_mend.specs.Changes.{is_kept}
use Rattle.cmd_mend.proofs.change.kept_of.Given as goal

abbrev pub invariant-loop-event : goal.invariant-loop-event
invariant-loop-event l = l.kept.items ≡ filter (is_kept l.coming (message_of l.message) l.receive) (take l.event-index l.event-items)
