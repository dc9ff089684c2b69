use Rattle.std.proofs.Common.{◌↔◌, List, sym, subst}
use Rattle.std.specs.Prelude.{IsTrue, IfOk}
use Rattle.chart.specs.Charts.{at, LineView, chart_lines}
use Rattle.chart.specs.Order.{Before}
use Rattle.closure.specs.Faults.{place_of}
use Rattle.closure.proofs.closure.Closure.before.Goals as goal

pub returns : goal.returns
returns c =
    let linked = c.linked-linked in
    subst (λ (x : List LineView). IfOk c.is_before.result (λ before. IsTrue before ↔ Before (chart_lines x) (place_of c.args.earlier) (place_of c.args.later))) linked.ensures.lines
    (subst (λ q. IfOk c.is_before.result (λ before. IsTrue before ↔ Before (chart_lines linked.result) (place_of c.args.earlier) (at q c.args.later.index))) (sym c.place.ensures.value) c.is_before.ensures)
