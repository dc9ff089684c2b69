use Rattle.std.proofs.Common.{ℕ, List, inl, refl, subst}
use Rattle.chart.specs.Charts.{chart_lines, LineView, IsReceiveFrom, at}
use Rattle.reordering.proofs.completion.completion.Completion.finished_before.Goals as goal

pub before_receive-requires-clause-receive : goal.before_receive-requires-clause-receive
before_receive-requires-clause-receive c =
    let r = c.args.receive.now in
    subst (λ (xs : List LineView). (q : ℕ) × IsReceiveFrom (chart_lines xs) q (at r.instance r.index)) c.self.view_is (_, c.in-Some.ensures.received)

pub returns-in-None : goal.returns-in-None
returns-in-None c =
    let r = c.args.receive.now in
    let none : (q : ℕ) → IsReceiveFrom (chart_lines c.args.self.now) q (at r.instance r.index) → ⊥ = subst (λ (xs : List LineView). (q : ℕ) → IsReceiveFrom (chart_lines xs) q (at r.instance r.index) → ⊥) c.self.view_is c.in-None.ensures in
    record { attained = inl refl; last = λ j is. let w = is.receive in absurd (none w.0 w.1) }
