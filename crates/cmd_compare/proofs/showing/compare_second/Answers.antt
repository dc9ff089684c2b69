use Rattle.std.proofs.Common.{ℕ, List, subst₂}
use Rattle.chart.specs.Charts.{LineView}
use Rattle.cmd_base.proofs.TextLemmas.{was_done}
use Rattle.cmd_base.specs.Texts.{named_of}
use Rattle.cmd_compare.specs.declared.error.CompareError.TheVariants.{Program}
use Rattle.cmd_compare.specs.Comparisons.{Compares}
use Rattle.cmd_compare.proofs.showing.compare_second.Goals as goal

pub returns : goal.returns
returns g c =
    let other = c.in_ok-other.other in
    let old = c.args.out.now in
    let new = c.compare_charts.new.out in
    let done = c.compare_charts.result in
    was_done Program (λ b found. Compares g.W.Out.sink old new c.args.form (named_of c.args.source.now) (named_of b) found) old c.args.second.now new c.in_ok-text.text other done c.in_ok-text.ensures c.in_ok-other.ensures.source
    (subst₂ (λ (ns : List (List ℕ)) (ls : List LineView). Compares g.W.Out.sink old new c.args.form (named_of c.args.source.now) (ns, ls) done) c.names-2.ensures c.chart-2.ensures.value
    (subst₂ (λ (ns : List (List ℕ)) (ls : List LineView). Compares g.W.Out.sink old new c.args.form (ns, ls) (c.names-2.result.now, c.chart-2.result.now) done) c.names.ensures c.chart.ensures.value c.compare_charts.ensures))
