use Rattle.std.proofs.Common.{◌≡◌, length, sym, ap, ◌∙◌, subst}
use Rattle.std.specs.Prelude.{All}
use Rattle.schedule.specs.Plans.{Plan}
use Rattle.chart.specs.RunSteps.Steps.{history_of, IsOutside}
use Rattle.schedule_replay.specs.declared.reordered_runs.scheduling.TheConstants.{FIRST_LINE}
use Rattle.schedule_replay.specs.ReorderedRuns.Schedules.{commands_of}
use Rattle.schedule_replay.specs.ReorderedRuns.Reorderings.{IsLeastTurn}
use Rattle.schedule_replay.proofs.ReorderedRunsLemmas.ReorderingLemmas.{shows_turn}
use Rattle.schedule_replay.proofs.reordered_runs.showing.show.Goals as goal

pub returns-in_ok-schedule-in-Some-clause-shown : goal.returns-in_ok-schedule-in-Some-clause-shown
returns-in_ok-schedule-in-Some-clause-shown c = λ first lines e r one found.
    let n = length c.args.names.now in
    let w = rw c.in-Run.is at found in
    let plan = c.in_ok-schedule-in-Some.schedule in
    let parts = c.in_ok-schedule-in-Some.ensures.parts in
    let capacity : plan.capacity ≡ c.in-Run.slots = ap (λ (p : Plan). p.capacity) parts ∙ c.in-Some.ensures.1 in
    let means = c.in_ok-schedule-in-Some.ensures.meaning (subst (All IsOutside) (sym c.as_slice.ensures.value) w.0.outside) in (
      ap (λ (p : Plan). p.names) parts,
      shows_turn n c.in-Run.slots lines e r plan c.in-Run.steps.items capacity (means.0 ∙ ap history_of c.as_slice.ensures.value) means.1 w.0,
      subst (λ k. IsLeastTurn n first k lines e r) (sym capacity) w.1,
    )

pub returns-in_ok-schedule-in-Some-clause-steps : goal.returns-in_ok-schedule-in-Some-clause-steps
returns-in_ok-schedule-in-Some-clause-steps c =
    let plan = c.in_ok-schedule-in-Some.schedule in
    let parts = c.in_ok-schedule-in-Some.ensures.parts in
    rw c.in-Run.is (ap (λ (p : Plan). p.capacity) parts ∙ c.in-Some.ensures.1, ap (λ (p : Plan). p.commands) parts ∙ ap (commands_of FIRST_LINE) c.as_slice.ensures.value)
