use Rattle.std.proofs.Common.{false, ◌≤◌, length, drop}
use Rattle.race_verdicts.specs.Luck.Arrivals.{receives, of_stream}
use Rattle.race_verdicts.specs.Luck.QueueTables.{AreQueues}
use Rattle.race_verdicts.proofs.luck.queues.received_of.Given as goal

abbrev pub invariant-lines : goal.invariant-lines
invariant-lines l = record {
  within : l.number ≤ length l.lines;
  queues : AreQueues l.lines false l.queues.first l.queues.next l.number (of_stream receives (drop l.number l.lines));
}

abbrev pub decreases-lines : goal.decreases-lines
decreases-lines l = l.number
