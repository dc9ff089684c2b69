use Rattle.race_verdicts.specs.Luck.Marking.{HasPassed}
use Rattle.race_verdicts.proofs.luck.marks.firsts_of.Given as goal

abbrev pub invariant-loop-line : goal.invariant-loop-line
invariant-loop-line l = HasPassed l.lines l.sources.above.items l.sources.sends.items l.host l.line-index l.found.marks l.found.stack.items
