use Rattle.std.proofs.Common.{ℕ, sym, subst}
use Rattle.std.proofs.lemmas.Result.{IfOk-weaker}
use Rattle.chart.specs.Histories.{chart_of, IsLegal}
use Rattle.chart.specs.Charts.{IsReceiveFrom}
use Rattle.chart.proofs.Belongs.{IsEvent-from_event}
use Rattle.chart.specs.RunSteps.Steps.{history_of}
use Rattle.schedule_replay.specs.ReorderedRuns.Reorderings.{IsKept}
use Rattle.closure.specs.Faults.{place_of}
use Rattle.schedule_replay.proofs.ReorderedRunsLemmas.StepsMade.{receive-by}
use Rattle.schedule_replay.proofs.reordered_runs.overtaking.overtake_in_run.Goals as goal

pub number_of-receive-requires : goal.number_of-receive-requires
number_of-receive-requires c =
    let from = c.requires.receive.1 in
    (c.requires.legal.0, c.args.slots, c.requires.legal.1, IsEvent-from_event (chart_of (history_of c.args.steps.now)) (place_of c.args.receive) from.0 from.1)

pub overtake_of_run-requires-clause-receive : goal.overtake_of_run-requires-clause-receive
overtake_of_run-requires-clause-receive c =
    let its = c.number_of-receive.ensures in
    receive-by c.args.steps.now c.number_of-receive.result c.requires.receive.0 its.0 its.1
    (subst (IsReceiveFrom (chart_of (history_of c.args.steps.now)) c.requires.receive.0) (sym its.2) c.requires.receive.1)

pub returns-clause-order : goal.returns-clause-order
returns-clause-order c =
    let steps = c.args.steps.now in
    let its = c.number_of-receive.ensures in
    IfOk-weaker c.overtake_of_run.result _ (λ reordered. (n : ℕ) → IsLegal n c.args.slots (history_of steps) → IsKept steps (place_of c.args.receive) reordered)
    (λ reordered kept n legal. subst (λ r. IsKept steps r reordered) its.2 (kept n its.0 legal its.1)) c.overtake_of_run.ensures.order
