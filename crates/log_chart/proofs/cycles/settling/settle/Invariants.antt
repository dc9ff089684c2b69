use Rattle.std.proofs.Common.{List}
use Rattle.log_chart.specs.Entries.{HaveStreams}
use Rattle.log_chart.specs.declared.entry.Entry.{Entry}
use Rattle.log_chart.specs.Cycles.Freeing.{Settles, AreAmong}
use Rattle.log_chart.specs.Cycles.Turns.{takers}
use Rattle.log_chart.proofs.cycles.settling.settle.Given as goal

abbrev pub invariant-turns : goal.invariant-turns
invariant-turns l = record {
  streams : HaveStreams l.log;
  among : AreAmong l.hosts l.log;
  so_far : (out : List Entry) → Settles l.log out → Settles l.initial.log out;
}

abbrev pub decreases-turns : goal.decreases-turns
decreases-turns l = takers l.log
