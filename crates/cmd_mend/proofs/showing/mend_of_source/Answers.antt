use Rattle.std.proofs.Common.{List, ℕ, subst₂}
use Rattle.chart.specs.Charts.{LineView}
use Rattle.cmd_mend.specs.Showing.{Shows}
use Rattle.cmd_mend.proofs.showing.mend_of_source.Goals as goal

pub returns : goal.returns
returns g c = record {
  result = c.mend_in.result;
  done = subst₂ (λ (ns : List (List ℕ)) (ls : List LineView). Shows g.W.Out.sink c.args.out.now c.mend_in.new.out c.mend_in.result c.args.wanted.now (ns, ls))
      c.names.ensures c.chart.ensures.value c.mend_in.ensures;
  exits = c.answered.ensures.status;
  prints = c.answered.ensures.diagnostics;
}
