use Rattle.std.proofs.Common.{sym, subst, arith}
use Rattle.chart.specs.Charts.{chart_lines}
use Rattle.closure.specs.Faults.{place_of}
use Rattle.schedule_replay.specs.ReorderedRuns.Reorderings.{IsReordered}
use Rattle.cmd_explain_race.specs.Reordering.{IsKeptFrom}
use Rattle.cmd_explain_race.specs.Reordering.Origin.{from_chart}
use Rattle.cmd_base.proofs.PairsLemmas.PairLemmas.{IsPair-from_words}
use Rattle.cmd_explain_race.proofs.ReorderingLemmas.{found_from}
use Rattle.cmd_explain_race.proofs.finding.found_in_chart.Goals as goal

pub overtake_of_chart-requires-clause-receive : goal.overtake_of_chart-requires-clause-receive
overtake_of_chart-requires-clause-receive c =
    (IsPair-from_words c.args.names.now c.args.chart.now c.args.asked.now c.in_ok-pair.pair c.in_ok-pair.ensures.0).receive

pub found_of-requires-clause-reordered : goal.found_of-requires-clause-reordered
found_of-requires-clause-reordered c =
    (1, omega arith, subst (λ n. IsReordered n 1 (chart_lines c.args.chart.now) (place_of c.in_ok-pair.pair.earlier) (place_of c.in_ok-pair.pair.receive) c.in-Ok.reordered) (sym c.requires) c.in-Ok.ensures.reordered)

pub returns : goal.returns
returns c =
    let reordered = subst (λ n. IsReordered n 1 (chart_lines c.args.chart.now) (place_of c.in_ok-pair.pair.earlier) (place_of c.in_ok-pair.pair.receive) c.in-Ok.reordered) (sym c.requires) c.in-Ok.ensures.reordered in
    let order = c.in-Ok.ensures.order in
    let kept : IsKeptFrom (c.args.names.now, c.args.chart.now) from_chart c.in_ok-pair.pair c.in-Ok.reordered = (order.1, (order.0, order.2), order.3) in
    found_from (c.args.names.now, c.args.chart.now) from_chart c.args.asked.now c.in_ok-pair.pair c.found_of.result c.in_ok-pair.ensures (c.found_of.ensures from_chart (omega arith) reordered kept)
