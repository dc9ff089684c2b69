use Rattle.std.proofs.Common.{◌≡◌, ◌++◌, drop}
use Rattle.diagrams.specs.Messages.Turns.{all_ends}
use Rattle.diagrams.proofs.messages.end.all_ends.Given as goal

abbrev pub invariant-loop-message : goal.invariant-loop-message
invariant-loop-message l = l.ends.items ++ all_ends (drop l.message-index l.messages) ≡ all_ends l.messages
