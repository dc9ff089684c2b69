use Rattle.std.proofs.Common.{◌≡◌, ◌+◌, ◌≤◌, length, take}
use Rattle.texts.specs.Lines.{lines_of}
use Rattle.log_formats.proofs.patterns.search.line_at.Given as goal

abbrev pub invariant-lines : goal.invariant-lines
invariant-lines l = record {
  lines : l.line + length (lines_of l.rest) ≡ length (lines_of (take l.place l.window));
  within : l.line + length l.rest ≤ length l.window;
}

abbrev pub decreases-lines : goal.decreases-lines
decreases-lines l = length l.rest
