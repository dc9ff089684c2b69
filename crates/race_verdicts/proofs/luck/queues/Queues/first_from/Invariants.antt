use Rattle.std.proofs.Common.{List, None, false, get_or}
use Rattle.log_chart.specs.declared.matching.LogLine.{LogLine}
use Rattle.race_verdicts.specs.Luck.QueueTables.{IsQueue, IsSomeQueue}
use Rattle.race_verdicts.proofs.LuckLemmas.QueueLemmas.{HasLeft, left_after}
use Rattle.race_verdicts.proofs.luck.queues.Queues.first_from.Given as goal

abbrev pub invariant-lines : goal.invariant-lines
invariant-lines l = record {
  queue : IsSomeQueue l.self.next l.next;
  left : (lines list : List LogLine) → IsQueue lines false l.self.next 0 (get_or l.self.first l.stream None) list → HasLeft lines l.self.next l.at list l.next;
}

abbrev pub decreases-lines : goal.decreases-lines
decreases-lines l = left_after l.self.next l.next
