use Rattle.std.proofs.Common.{◌≡◌, ◌≤◌, ◌++◌, [], length, drop, take}
use Rattle.std.specs.Prelude.{fold}
use Rattle.chart.specs.declared.instance.TheConstants.{MAX_INSTANCES}
use Rattle.log_chart.specs.Named.Entering.{with_word, entries_from, hosts_from}
use Rattle.log_chart.specs.Named.Faults.{first_fault}
use Rattle.log_chart.specs.Named.Logs.{before_of, begun}
use Rattle.log_chart.proofs.named.entering.entries_of.Given as goal

abbrev pub invariant-loop-host : goal.invariant-loop-host
invariant-loop-host l = record {
  hosts : l.reading.hosts ≡ fold with_word [] (take l.host-index l.hosts);
  names : l.reading.names.keys ≡ [];
  streams : l.reading.streams.keys ≡ [];
  entries : l.reading.entries.items ≡ [];
  few : length l.reading.hosts ≤ MAX_INSTANCES;
}

abbrev pub invariant-loop-line : goal.invariant-loop-line
invariant-loop-line l = record {
  hosts : hosts_from (before_of l.reading) (drop l.line-index l.lines) ≡ hosts_from (begun l.hosts) l.lines;
  entries : l.reading.entries.items ++ entries_from (before_of l.reading) (drop l.line-index l.lines) ≡ entries_from (begun l.hosts) l.lines;
  few : length l.reading.hosts ≤ MAX_INSTANCES;
  first : length (fold with_word [] l.hosts) ≤ MAX_INSTANCES;
  faults : first_fault (before_of l.reading) (drop l.line-index l.lines) ≡ first_fault (begun l.hosts) l.lines;
}
