use Rattle.std.proofs.Common.{ℕ, List, sym, subst}
use Rattle.std.specs.Prelude.{MatchOption}
use Rattle.chart.specs.Charts.{at, LineView, IsReceiveFrom, BelongsTo, chart_lines}
use Rattle.closure.specs.Faults.{place_of}
use Rattle.closure.proofs.closure.Closure.send_of.Goals as goal

pub returns : goal.returns
returns c =
    subst (λ (x : List LineView). MatchOption c.send_of.result ((q : ℕ) → IsReceiveFrom (chart_lines x) q (place_of c.args.receive.now) → ⊥) (λ send. BelongsTo (chart_lines x) (place_of send) (place_of c.args.receive.now))) c.linked-linked.ensures.lines
    (subst (λ p. MatchOption c.send_of.result ((q : ℕ) → IsReceiveFrom (chart_lines c.linked-linked.result) q (at p c.args.receive.now.index) → ⊥) (λ send. BelongsTo (chart_lines c.linked-linked.result) (place_of send) (at p c.args.receive.now.index))) (sym c.place.ensures.value) c.send_of.ensures)
