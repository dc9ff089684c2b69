use Rattle.std.proofs.Common.{map}
use Rattle.std.specs.Prelude.{is_some}
use Rattle.log_chart.specs.Cycles.Searching.{IsSearch, to_do}
use Rattle.race_verdicts.specs.Luck.Marking.{HaveMarked}
use Rattle.race_verdicts.proofs.luck.marks.Marks.pass.Given as goal

abbrev pub invariant-lines : goal.invariant-lines
invariant-lines l = record {
  search : IsSearch l.sources.above.items l.sources.sends.items l.send (map is_some l.self.marks) l.self.stack.items;
  marked : HaveMarked l.send l.fn.self.marks l.self.marks;
}

abbrev pub decreases-lines : goal.decreases-lines
decreases-lines l = to_do (map is_some l.self.marks) l.self.stack.items
