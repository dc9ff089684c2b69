use Rattle.std.proofs.Common.{◌≡◌, ◌≤◌, ◌+◌, [], length}
use Rattle.chart.specs.declared.instance.TheConstants.{MAX_INSTANCES}
use Rattle.diagram_join.specs.Joins.{names_from}
use Rattle.diagram_join.proofs.instances.names_of.Given as goal

abbrev pub invariant-processes : goal.invariant-processes
invariant-processes l = record {
  same : names_from l.names l.rest ≡ names_from [] l.processes;
  room : length l.names + length l.rest ≤ MAX_INSTANCES;
}

abbrev pub decreases-processes : goal.decreases-processes
decreases-processes l = length l.rest
