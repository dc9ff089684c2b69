use Rattle.std.proofs.Common.{◌≡◌, take}
use Rattle.std.specs.Prelude.{All}
use Rattle.cmd_page.specs.Marks.Pairing.{HasRange, pairs_of}
use Rattle.cmd_page.proofs.marks.pairs.pairs_of.Given as goal

abbrev pub invariant-loop-report : goal.invariant-loop-report
invariant-loop-report l = (l.pairs.items ≡ pairs_of (take l.report-index l.reports)) × All HasRange l.pairs.items
