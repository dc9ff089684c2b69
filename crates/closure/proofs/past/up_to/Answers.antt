use Rattle.std.proofs.Common.{suc, length}
use Rattle.chart.specs.Charts.{at, chart_lines}
use Rattle.closure.proofs.SearchLemmas.{IsSearch-none}
use Rattle.closure.proofs.past.up_to.Goals as goal

pub reach-requires-clause-search : goal.reach-requires-clause-search
reach-requires-clause-search c = rw (c.in_ok-search.ensures, c.len.ensures.value) (IsSearch-none (chart_lines c.args.linked.now) (length c.args.linked.now) (at (suc c.args.line) c.args.index))
