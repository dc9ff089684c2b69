use Rattle.std.proofs.Common.{length, sym, ◌∙◌, subst, subst₂}
use Rattle.chart.specs.Charts.{IsReceiveFrom}
use Rattle.chart.specs.Histories.{chart_of, IsLegal}
use Rattle.chart.specs.Places.{IsEvent}
use Rattle.chart.specs.RunSteps.Steps.{history_of}
use Rattle.schedule_replay.specs.ReorderedRuns.Reorderings.{IsReordered, IsKept}
use Rattle.closure.specs.Faults.{place_of}
use Rattle.schedule_replay.proofs.ReorderedRunsLemmas.ReorderingLemmas.{recorded_chart}
use Rattle.schedule_replay.proofs.reordered_runs.overtaking.overtake_of_schedule.Goals as goal

pub overtake_in_run-requires-clause-legal : goal.overtake_in_run-requires-clause-legal
overtake_in_run-requires-clause-legal c =
    let n = length c.args.schedule.now.names in
    (n, subst₂ (λ k steps. IsLegal n k (history_of steps)) (sym (c.slots-slots.ensures.value ∙ c.capacity.ensures)) (sym c.as_slice.ensures.value) c.in_ok-steps.ensures.legal)

pub overtake_in_run-requires-clause-receive : goal.overtake_in_run-requires-clause-receive
overtake_in_run-requires-clause-receive c =
    let q = c.requires.receive.0 in
    let r = place_of c.args.receive in
    let whole = recorded_chart c.args.schedule.now c.in_ok-steps.steps.items c.in_ok-steps.ensures in
    (q, subst (λ steps. IsReceiveFrom (chart_of (history_of steps)) q r) (sym c.as_slice.ensures.value) (subst (λ d. IsReceiveFrom d q r) (sym whole) c.requires.receive.1))

pub overtake_in_run-requires-clause-earlier : goal.overtake_in_run-requires-clause-earlier
overtake_in_run-requires-clause-earlier c =
    let e = place_of c.args.earlier in
    let whole = recorded_chart c.args.schedule.now c.in_ok-steps.steps.items c.in_ok-steps.ensures in
    subst (λ steps. IsEvent (chart_of (history_of steps)) e) (sym c.as_slice.ensures.value) (subst (λ d. IsEvent d e) (sym whole) c.requires.earlier)

pub returns-clause-reordered : goal.returns-clause-reordered
returns-clause-reordered c =
    let plan = c.args.schedule.now in
    let n = length plan.names in
    let e = place_of c.args.earlier in
    let r = place_of c.args.receive in
    let reordered = c.in_ok-reordered.reordered in
    let slots = c.slots-slots.ensures.value ∙ c.capacity.ensures in
    let legal = subst₂ (λ k steps. IsLegal n k (history_of steps)) (sym slots) (sym c.as_slice.ensures.value) c.in_ok-steps.ensures.legal in
    let found = subst₂ (λ k steps. IsReordered n k (chart_of (history_of steps)) e r reordered) slots c.as_slice.ensures.value (c.in_ok-reordered.ensures.reordered n legal) in
    subst (λ d. IsReordered n plan.capacity d e r reordered) (recorded_chart plan c.in_ok-steps.steps.items c.in_ok-steps.ensures) found

pub returns-clause-order : goal.returns-clause-order
returns-clause-order c =
    let n = length c.args.schedule.now.names in
    let slots = c.slots-slots.ensures.value ∙ c.capacity.ensures in
    let legal = subst₂ (λ k steps. IsLegal n k (history_of steps)) (sym slots) (sym c.as_slice.ensures.value) c.in_ok-steps.ensures.legal in
    (c.in_ok-steps.steps.items, c.in_ok-steps.ensures, subst (λ steps. IsKept steps (place_of c.args.receive) c.in_ok-reordered.reordered) c.as_slice.ensures.value (c.in_ok-reordered.ensures.order n legal))
