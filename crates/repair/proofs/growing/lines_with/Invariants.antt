use Rattle.std.proofs.Common.{◌≡◌, take, map}
use Rattle.repair.specs.Growing.{message_of, line_with}
use Rattle.repair.proofs.growing.lines_with.Given as goal

abbrev pub invariant-loop-line : goal.invariant-loop-line
invariant-loop-line l = l.longer.items ≡ map (line_with (message_of l.message)) (take l.line-index l.lines)
