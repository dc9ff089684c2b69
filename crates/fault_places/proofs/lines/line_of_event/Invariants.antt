use Rattle.std.proofs.Common.{◌≡◌, ◌+◌, ◌≤◌, length}
use Rattle.fault_places.specs.Standings.{event_from}
use Rattle.fault_places.proofs.lines.line_of_event.Given as goal
use Rattle.texts.specs.Lines.{lines_of}

abbrev pub invariant-lines : goal.invariant-lines
invariant-lines l = record {
  line : event_from l.instance l.index l.heads l.events l.number (lines_of l.rest) ≡ event_from l.instance l.index 0 0 1 (lines_of l.text);
  heads : l.heads + 1 ≤ l.number;
  events : l.events + 1 ≤ l.number;
  within : l.number + length l.rest ≤ length l.text + 1;
}

abbrev pub decreases-lines : goal.decreases-lines
decreases-lines l = length l.rest
