use Rattle.std.proofs.Common.{List, subst}
use Rattle.std.proofs.lemmas.Result.{err_from_is_err_and}
use Rattle.chart.specs.Charts.{LineView}
use Rattle.cmd_races.specs.Showing.{Shows}
use Rattle.cmd_races.proofs.RefusedLemmas.{not_shown}
use Rattle.cmd_races.proofs.showing.show_chart.Goals as goal

pub returns-in_err-closure : goal.returns-in_err-closure
returns-in_err-closure g c =
    let p = err_from_is_err_and c.from_residual-in_err-closure.result c.from_residual-in_err-closure.ensures.1 in
    rw (p.1, p.2) (not_shown g.W.Out.sink c.args.out.now (c.args.names.now, c.args.chart.now) c.args.wanted.now c.in_ok-instances.instances.items
    c.in_ok-instances.ensures.ok c.in_err-closure.field-0.0 c.in_err-closure.ensures.refused)

pub returns : goal.returns
returns g c =
    subst (λ (ls : List LineView). Shows g.W.Out.sink c.args.out.now c.show_races.new.out c.show_races.result c.args.wanted.now (c.args.names.now, ls)) c.in_ok-closure.ensures.closure c.show_races.ensures
