use Rattle.std.proofs.Common.{◌≡◌, ◌++◌, take, map}
use Rattle.std.specs.Prelude.{All}
use Rattle.cmd_page.specs.Marks.Pairing.{HasRange, pair_of}
use Rattle.cmd_page.proofs.marks.pairs.add_report.Given as goal

abbrev pub invariant-loop-range : goal.invariant-loop-range
invariant-loop-range l = (l.pairs.items ≡ l.initial.pairs.items ++ map (pair_of l.report.receive) (take l.range-index l.ranges)) × All HasRange l.pairs.items
