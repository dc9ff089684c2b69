use Rattle.std.proofs.Common.{◌≡◌, take, map}
use Rattle.repair.specs.Growing.{message_of}
use Rattle.repair.specs.Moves.{moved_event}
use Rattle.repair.proofs.moves.moved_events.Given as goal

abbrev pub invariant-loop-event : goal.invariant-loop-event
invariant-loop-event l = l.moved.items ≡ map (moved_event (message_of l.message)) (take l.event-index l.events)
