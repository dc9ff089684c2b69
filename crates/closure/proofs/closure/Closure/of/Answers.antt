use Rattle.std.proofs.Common.{List, length, sym, inr, subst}
use Rattle.std.specs.Prelude.{MatchBool}
use Rattle.chart.specs.Charts.{Place, LineView, IsChart, chart_lines, IsPossible}
use Rattle.chart.specs.Order.{IsCyclic}
use Rattle.closure.specs.Faults.{IsFaulty, Refuses}
use Rattle.closure.proofs.LinkLemmas.{none_faulty}
use Rattle.closure.proofs.Impossible.{impossible, no_cycle}
use Rattle.closure.proofs.closure.Closure.of.Goals as goal

pub returns-in-Err-clause-refused : goal.returns-in-Err-clause-refused
returns-in-Err-clause-refused c = subst (λ (x : List LineView). Refuses (chart_lines x) c.in-Err.error) c.lines-lines.ensures.value c.in-Err.ensures.err

pub returns-in-Err-clause-impossible : goal.returns-in-Err-clause-impossible
returns-in-Err-clause-impossible c = impossible (length c.args.chart.now) (chart_lines c.args.chart.now) c.in-Err.error (subst (λ (x : List LineView). Refuses (chart_lines x) c.in-Err.error) c.lines-lines.ensures.value c.in-Err.ensures.err)

pub new-requires : goal.new-requires
new-requires c = rw c.as_slice.ensures.value (record { chart = subst IsChart (sym c.lines-lines.ensures.value) c.lines-lines.ensures.chart; rows = c.in-Ok.ensures.ok })

pub returns-then-not-branch-clause-refused : goal.returns-then-not-branch-clause-refused
returns-then-not-branch-clause-refused c =
    let cyclic = subst (λ b. MatchBool b (IsPossible (length c.lines-lines.result.now) (chart_lines c.lines-lines.result.now)) (IsCyclic (chart_lines c.lines-lines.result.now))) c.if-not-branch.true (rw c.new.ensures at c.in_ok-runs.ensures) in
    subst (λ (x : List LineView). IsCyclic (chart_lines x) × ((r : Place) → IsFaulty (chart_lines x) r → ⊥)) c.lines-lines.ensures.value
    (cyclic, none_faulty c.lines-lines.result.now c.in-Ok.partners.items c.in-Ok.ensures.ok)

pub returns-then-not-branch-clause-impossible : goal.returns-then-not-branch-clause-impossible
returns-then-not-branch-clause-impossible c =
    let cyclic = subst (λ b. MatchBool b (IsPossible (length c.lines-lines.result.now) (chart_lines c.lines-lines.result.now)) (IsCyclic (chart_lines c.lines-lines.result.now))) c.if-not-branch.true (rw c.new.ensures at c.in_ok-runs.ensures) in
    inr (λ possible. no_cycle (length c.args.chart.now) (chart_lines c.args.chart.now) possible (subst (λ (x : List LineView). IsCyclic (chart_lines x)) c.lines-lines.ensures.value cyclic))
