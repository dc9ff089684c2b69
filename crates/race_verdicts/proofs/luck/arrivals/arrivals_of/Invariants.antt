use Rattle.race_verdicts.specs.Luck.ArrivalTables.{AreArrived}
use Rattle.race_verdicts.specs.Luck.QueueTables.{AreWaiting}
use Rattle.race_verdicts.proofs.luck.arrivals.arrivals_of.Given as goal

abbrev pub invariant-loop-place : goal.invariant-loop-place
invariant-loop-place l = record {
  waiting : AreWaiting l.lines l.arrivals l.place l.waiting.received.first l.waiting.received.next l.waiting.left.first l.waiting.left.next;
  found : AreArrived l.lines l.arrivals l.place l.found.sent l.found.begun;
}
