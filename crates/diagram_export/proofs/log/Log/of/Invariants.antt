use Rattle.std.proofs.Common.{◌≡◌, ◌++◌, drop}
use Rattle.std.specs.List.{flat_map}
use Rattle.diagram_export.specs.Clocks.{events_of, entries_from, log_of}
use Rattle.diagram_export.proofs.log.Log.of.Given as goal

-- the entries so far and those of the rows to come are all of them
abbrev pub invariant-loop-row : goal.invariant-loop-row
invariant-loop-row l = l.entries.items ++ entries_from l.export l.times (flat_map events_of (drop l.row-index l.export.rows)) ≡ log_of l.export
