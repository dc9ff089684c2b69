use Rattle.std.proofs.Common.{true, ◌≤◌, length, drop}
use Rattle.race_verdicts.specs.Luck.Arrivals.{is_left, of_stream}
use Rattle.race_verdicts.specs.Luck.QueueTables.{AreQueues}
use Rattle.race_verdicts.proofs.luck.queues.left_of.Given as goal

abbrev pub invariant-lines : goal.invariant-lines
invariant-lines l = record {
  within : l.number ≤ length l.lines;
  queues : AreQueues l.lines true l.queues.first l.queues.next l.number (of_stream (is_left l.lines) (drop l.number l.lines));
}

abbrev pub decreases-lines : goal.decreases-lines
decreases-lines l = l.number
