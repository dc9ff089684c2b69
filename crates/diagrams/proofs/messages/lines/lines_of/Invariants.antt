use Rattle.std.proofs.Common.{◌≡◌, ◌++◌, ◌+◌, ◌-◌}
use Rattle.diagrams.specs.Messages.Lines.{lines_from}
use Rattle.diagrams.proofs.messages.lines.lines_of.Given as goal

abbrev pub invariant-loop-place : goal.invariant-loop-place
invariant-loop-place l = l.lines.items ++ lines_from l.ends (l.place + 1) (l.count - l.place) ≡ lines_from l.ends 1 l.count
