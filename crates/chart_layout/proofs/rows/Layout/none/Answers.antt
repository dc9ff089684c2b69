use Rattle.std.proofs.Common.{◌≡◌, [], replicate, ap, ◌∙◌, arith}
use Rattle.chart.specs.declared.instance.TheConstants.{MAX_INSTANCES}
use Rattle.chart_layout.proofs.IndexLemmas.{IsIndex-none}
use Rattle.chart_layout.proofs.rows.Layout.none.Goals as goal

pub invariant_of-result : goal.invariant_of-result
invariant_of-result c =
    let all : c.loop.counter ≡ MAX_INSTANCES = omega arith in
    let lines : c.loop.lines.items ≡ replicate MAX_INSTANCES [] = c.loop.invariant ∙ ap (λ n. replicate n []) all in
    rw (c.new-2.ensures.items, lines) IsIndex-none
