use Rattle.std.proofs.Common.{◌≡◌, length}
use Rattle.log_chart.specs.Cycles.Searching.{IsSearch, to_do}
use Rattle.log_chart.proofs.cycles.past.Past.pass.Given as goal

abbrev pub invariant-lines : goal.invariant-lines
invariant-lines l = record {
  whole : length l.self.seen.items ≡ length l.fn.self.seen.items;
  search : IsSearch l.sources.above.items l.sources.sends.items l.number l.self.seen.items l.self.stack.items;
}

abbrev pub decreases-lines : goal.decreases-lines
decreases-lines l = to_do l.self.seen.items l.self.stack.items
