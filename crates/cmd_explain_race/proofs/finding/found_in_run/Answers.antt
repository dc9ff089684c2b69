use Rattle.std.proofs.Common.{ℕ, List, length, Ok, Err, sym, ◌∙◌, subst, subst₂, arith}
use Rattle.std.proofs.lemmas.Result.{err_from_is_err_and}
use Rattle.chart.specs.Charts.{LineView, chart_lines}
use Rattle.closure.specs.Faults.{place_of}
use Rattle.schedule_replay.specs.ReorderedRuns.Reorderings.{IsReordered}
use Rattle.cmd_base.specs.Pairs.Pairs.{IsPair}
use Rattle.cmd_explain_race.specs.Finding.{IsFoundOf}
use Rattle.cmd_explain_race.specs.Reordering.{IsAskedFor}
use Rattle.cmd_explain_race.specs.Reordering.Origin.{recorded}
use Rattle.cmd_base.proofs.PairsLemmas.PairLemmas.{IsPair-from_words}
use Rattle.cmd_explain_race.proofs.ReorderingLemmas.{found_from}
use Rattle.cmd_explain_race.proofs.finding.found_in_run.Goals as goal

pub returns-in_err-pair : goal.returns-in_err-pair
returns-in_err-pair c =
    let error = c.in_err-pair.field-0.0 in
    let p = err_from_is_err_and c.from_residual.result c.from_residual.ensures.1 in
    rw (p.1, p.2) (subst₂ (λ (ns : List (List ℕ)) (ls : List LineView). IsAskedFor (ns, ls) c.args.asked.now (Err error)) c.names.ensures c.chart.ensures.value c.in_err-pair.ensures)

pub overtake_of_schedule-requires-clause-receive : goal.overtake_of_schedule-requires-clause-receive
overtake_of_schedule-requires-clause-receive c =
    let asked = c.args.asked.now in
    (subst (λ (l : List LineView). IsPair (chart_lines l) c.in_ok-pair.pair) (c.chart.ensures.value ∙ c.requires.chart)
    (IsPair-from_words c.names.result.now c.chart.result.now asked c.in_ok-pair.pair c.in_ok-pair.ensures.0)).receive

pub found_of-requires-clause-reordered : goal.found_of-requires-clause-reordered
found_of-requires-clause-reordered c =
    let pair = c.in_ok-pair.pair in
    let capacity = c.args.schedule.now.capacity in (
      capacity,
      omega (arith, c.slots.ensures.first, c.slots.ensures.value, c.capacity.ensures),
      subst₂ (λ (ns : List (List ℕ)) (ls : List LineView). IsReordered (length ns) capacity (chart_lines ls) (place_of pair.earlier) (place_of pair.receive) c.in-Ok.reordered)
          (sym (c.names-2.ensures ∙ c.requires.names)) (sym (c.chart-2.ensures.value ∙ c.requires.chart)) c.in-Ok.ensures.reordered,
    )

pub returns : goal.returns
returns c =
    let asked = c.args.asked.now in
    let o = c.args.outcome.now in
    let plan = c.args.schedule.now in
    let pair = c.in_ok-pair.pair in
    let reordered = subst₂ (λ (ns : List (List ℕ)) (ls : List LineView). IsReordered (length ns) plan.capacity (chart_lines ls) (place_of pair.earlier) (place_of pair.receive) c.in-Ok.reordered)
    (sym (c.names-2.ensures ∙ c.requires.names)) (sym (c.chart-2.ensures.value ∙ c.requires.chart)) c.in-Ok.ensures.reordered in
    let found = subst₂ (λ (ns : List (List ℕ)) (ls : List LineView). IsFoundOf (ns, ls) (recorded plan) pair c.found_of.result) c.names-2.ensures c.chart-2.ensures.value
    (c.found_of.ensures (recorded plan) (omega (arith, c.slots.ensures.first, c.slots.ensures.value, c.capacity.ensures)) reordered c.in-Ok.ensures.order) in
    let is_asked = subst₂ (λ (ns : List (List ℕ)) (ls : List LineView). IsAskedFor (ns, ls) asked (Ok pair)) c.names.ensures c.chart.ensures.value c.in_ok-pair.ensures in
    found_from (o.names, o.chart) (recorded plan) asked pair c.found_of.result is_asked found
