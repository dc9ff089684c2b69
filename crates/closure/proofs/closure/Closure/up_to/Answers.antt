use Rattle.std.proofs.Common.{List, sym, subst}
use Rattle.std.specs.Prelude.{IfOk}
use Rattle.chart.specs.Charts.{at, LineView, chart_lines}
use Rattle.closure.specs.Faults.{place_of}
use Rattle.closure.specs.Searches.{IsReached}
use Rattle.closure.proofs.closure.Closure.up_to.Goals as goal

pub returns-clause-reached : goal.returns-clause-reached
returns-clause-reached c =
    subst (λ (x : List LineView). IfOk c.up_to.result (IsReached (chart_lines x) (place_of c.args.send.now))) c.linked-linked.ensures.lines
    (subst (λ p. IfOk c.up_to.result (IsReached (chart_lines c.linked-linked.result) (at p c.args.send.now.index))) (sym c.place.ensures.value) c.up_to.ensures.reached)
