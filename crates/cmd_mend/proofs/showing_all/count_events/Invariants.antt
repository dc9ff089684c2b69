use Rattle.std.proofs.Common.{◌≡◌, ◌*◌, ◌≤◌, length, take}
use Rattle.chart.specs.declared.line.TheConstants.{MAX_EVENTS}
use Rattle.cmd_mend.specs.Limits.{all_events}
use Rattle.cmd_mend.proofs.showing_all.count_events.Given as goal

-- those of the first lines were counted
abbrev pub invariant-loop-line : goal.invariant-loop-line
invariant-loop-line l = (l.count ≡ length (all_events (take l.line-index l.lines))) × (l.count ≤ l.line-index * MAX_EVENTS)
