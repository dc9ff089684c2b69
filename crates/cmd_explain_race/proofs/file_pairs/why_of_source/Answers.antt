use Rattle.std.proofs.Common.{List, ℕ, subst₂}
use Rattle.chart.specs.Charts.{LineView}
use Rattle.cmd_explain_race.specs.Explaining.{Explains}
use Rattle.cmd_explain_race.proofs.file_pairs.why_of_source.Goals as goal

pub returns : goal.returns
returns g c = record {
  result = c.why_in.result;
  done = subst₂ (λ (ns : List (List ℕ)) (ls : List LineView). Explains g.W.Out.sink c.args.out.now c.why_in.new.out c.why_in.result (ns, ls) c.args.asked.now)
      c.names.ensures c.chart.ensures.value c.why_in.ensures;
  exits = c.answered.ensures.status;
  prints = c.answered.ensures.diagnostics;
}
