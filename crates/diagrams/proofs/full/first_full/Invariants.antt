use Rattle.std.proofs.Common.{◌≡◌, [], List, drop}
use Rattle.diagrams.specs.Full.{full_from}
use Rattle.diagrams.specs.Loads.{AreLoads}
use Rattle.diagrams.specs.declared.message.Message.{Message}
use Rattle.diagrams.proofs.full.first_full.Given as goal

abbrev pub invariant-loop-message : goal.invariant-loop-message
invariant-loop-message l = (earlier : List Message) × AreLoads l.loads earlier
    × (full_from earlier (drop l.message-index l.messages) ≡ full_from [] l.messages)
