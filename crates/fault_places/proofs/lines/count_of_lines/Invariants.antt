use Rattle.std.proofs.Common.{◌≡◌, ◌+◌, ◌≤◌, length}
use Rattle.fault_places.proofs.lines.count_of_lines.Given as goal
use Rattle.texts.specs.Lines.{lines_of}

abbrev pub invariant-lines : goal.invariant-lines
invariant-lines l = record {
  lines : l.count + length (lines_of l.rest) ≡ length (lines_of l.text);
  within : l.count + length l.rest ≤ length l.text;
}

abbrev pub decreases-lines : goal.decreases-lines
decreases-lines l = length l.rest
