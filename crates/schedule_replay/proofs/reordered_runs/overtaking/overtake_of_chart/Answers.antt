use Rattle.std.proofs.Common.{ℕ, List, length, sym, subst}
use Rattle.std.proofs.Math.Path.{fun_ext}
use Rattle.std.proofs.lemmas.Result.{IfOk-weaker}
use Rattle.chart.specs.Charts.{chart_lines, IsReceiveFrom}
use Rattle.chart.specs.Histories.{chart_of, IsLegal}
use Rattle.chart.specs.Places.{IsEvent}
use Rattle.chart.specs.declared.run_steps.step.Step.{Step}
use Rattle.chart.specs.RunSteps.Steps.{history_of}
use Rattle.closure.specs.Faults.{place_of}
use Rattle.schedule_replay.specs.declared.reordered_runs.overtaking.Reordered.{Reordered}
use Rattle.schedule_replay.specs.ReorderedRuns.Runs.{IsLeastRun}
use Rattle.schedule_replay.specs.ReorderedRuns.Reorderings.{IsReordered, IsKept}
use Rattle.schedule_replay.proofs.ReorderedRunsLemmas.ReorderingLemmas.{reordered_of_run}
use Rattle.schedule_replay.proofs.reordered_runs.overtaking.overtake_of_chart.Goals as goal

pub overtake_in_run-requires-clause-legal : goal.overtake_in_run-requires-clause-legal
overtake_in_run-requires-clause-legal c =
    let k = c.in_ok-base.base.slots in
    (length c.args.chart.now, subst (λ steps. IsLegal (length c.args.chart.now) k (history_of steps)) (sym c.as_slice.ensures.value) c.in_ok-base.ensures.chart_run.legal)

pub overtake_in_run-requires-clause-receive : goal.overtake_in_run-requires-clause-receive
overtake_in_run-requires-clause-receive c = (
  c.requires.receive.0,
  subst (λ steps. IsReceiveFrom (chart_of (history_of steps)) c.requires.receive.0 (place_of c.args.receive)) (sym c.as_slice.ensures.value)
      (subst (λ d. IsReceiveFrom d c.requires.receive.0 (place_of c.args.receive)) (sym (fun_ext c.in_ok-base.ensures.chart_run.chart)) c.requires.receive.1),
)

pub overtake_in_run-requires-clause-earlier : goal.overtake_in_run-requires-clause-earlier
overtake_in_run-requires-clause-earlier c =
    subst (λ steps. IsEvent (chart_of (history_of steps)) (place_of c.args.earlier)) (sym c.as_slice.ensures.value)
    (subst (λ d. IsEvent d (place_of c.args.earlier)) (sym (fun_ext c.in_ok-base.ensures.chart_run.chart)) c.requires.earlier)

pub returns-clause-reordered : goal.returns-clause-reordered
returns-clause-reordered c =
    let n = length c.args.chart.now in
    let k = c.in_ok-base.base.slots in
    let lines = chart_lines c.args.chart.now in
    let e = place_of c.args.earlier in
    let r = place_of c.args.receive in
    let steps = c.in_ok-base.base.steps.items in
    IfOk-weaker _ _ (IsReordered n 1 lines e r)
    (λ (reordered : Reordered) found. reordered_of_run n k lines e r steps reordered c.in_ok-base.ensures (found n c.in_ok-base.ensures.chart_run.legal))
    (rw c.as_slice.ensures.value at c.overtake_in_run.ensures.reordered)

pub returns-clause-order : goal.returns-clause-order
returns-clause-order c =
    let n = length c.args.chart.now in
    let k = c.in_ok-base.base.slots in
    let steps = c.in_ok-base.base.steps.items in
    IfOk-weaker _ _ (λ (reordered : Reordered). (l : ℕ) × (run : List Step) × IsLeastRun n l (chart_lines c.args.chart.now) run × IsKept run (place_of c.args.receive) reordered)
    (λ (reordered : Reordered) kept. (k, steps, c.in_ok-base.ensures, kept n c.in_ok-base.ensures.chart_run.legal))
    (rw c.as_slice.ensures.value at c.overtake_in_run.ensures.order)
