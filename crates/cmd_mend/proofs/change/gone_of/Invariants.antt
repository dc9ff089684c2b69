use Rattle.std.proofs.Common.{◌≡◌, take, filter}
use Rattle.repair.specs.Growing.{message_of}
use Rattle.cmd_mend.specs.Changes.{is_gone}
use Rattle.cmd_mend.proofs.change.gone_of.Given as goal

abbrev pub invariant-loop-event : goal.invariant-loop-event
invariant-loop-event l = l.gone.items ≡ filter (is_gone (message_of l.message) l.other) (take l.event-index l.event-items)
