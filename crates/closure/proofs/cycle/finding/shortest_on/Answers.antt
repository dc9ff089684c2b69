use Rattle.std.proofs.Common.{suc, ◌+◌, length, sym, ap, ◌∙◌, subst}
use Rattle.chart.specs.Charts.{chart_lines}
use Rattle.closure.specs.Cycle.Rounds.{bound_of}
use Rattle.closure.proofs.CycleLemmas.BestLemmas.{IsBest, best_next}
use Rattle.closure.proofs.cycle.finding.shortest_on.Goals as goal

pub loop-place-preserved : goal.loop-place-preserved
loop-place-preserved c =
    let d = chart_lines c.args.hearing.now in
    let n = length c.args.hearing.now in
    subst (IsBest d n (suc c.args.line) (c.loop-place.place + 1) c.args.before) (sym c.better_of-best.ensures)
    (best_next d n (suc c.args.line) c.loop-place.place c.most_of-most.result c.args.before c.loop-place.best c.in_ok-found.found (c.most_of-most.ensures ∙ ap (λ m. bound_of m c.loop-place.best) c.len.ensures.value) c.in_ok-found.ensures c.loop-place.invariant)
