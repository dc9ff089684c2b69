use Rattle.std.proofs.Common.{◌≤◌, arith}
use Rattle.chart.specs.declared.line.TheConstants.{MAX_EVENTS}
use Rattle.chart.specs.Histories.{chart_of}
use Rattle.chart.specs.RunSteps.Steps.{history_of, place_after}
use Rattle.schedule_replay.proofs.ReorderedRunsLemmas.Slots.{legal-more}
use Rattle.schedule_replay.proofs.ReorderedRunsLemmas.ReorderingLemmas.{turns_round, none_with_fewer, none_at_all}
use Rattle.schedule_replay.proofs.reordered_runs.overtaking.overtake_of_run.Goals as goal

pub returns-in-None-clause-reordered : goal.returns-in-None-clause-reordered
returns-in-None-clause-reordered c = λ n x y legal is_x is_y.
    let steps = c.args.steps.now in
    let h = history_of steps in
    let all = legal-more n c.args.slots MAX_EVENTS c.requires.limit h legal in
    none_at_all n h (place_after steps c.args.earlier x) (place_after steps c.args.receive y) (rw c.in-None.is at (c.in_ok-run.ensures.found n x y all is_x is_y))

pub loop-least-init : goal.loop-least-init
loop-least-init c =
    let steps = c.args.steps.now in
    let h = history_of steps in
    record {
      begun = omega arith;
      order = c.requires.limit;
      limit = omega arith;
      kept = λ n y legal is_y.
          let all = legal-more n c.args.slots MAX_EVENTS c.requires.limit h legal in
          (rw c.in-Some.is at c.in_ok-run.ensures.order) n y all is_y;
      found = λ n x y legal is_x is_y.
          let all = legal-more n c.args.slots MAX_EVENTS c.requires.limit h legal in
          turns_round n MAX_EVENTS (chart_of h) (place_after steps c.args.earlier x) (place_after steps c.args.receive y) c.in-Some.run'.items (rw c.in-Some.is at (c.in_ok-run.ensures.found n x y all is_x is_y)) (rw c.in-Some.is at c.in_ok-run.ensures.outside);
      none = λ n x y legal is_x is_y k low high. absurd (omega arith);
    }

pub loop-least-preserved-in-Some-2 : goal.loop-least-preserved-in-Some-2
loop-least-preserved-in-Some-2 c =
    let steps = c.args.steps.now in
    let h = history_of steps in
    let middle = c.next_try-middle.result in
    let enough : c.args.slots ≤ middle = omega arith in
    record {
      begun = c.loop-least.invariant.begun;
      order = omega arith;
      limit = omega arith;
      kept = λ n y legal is_y.
          let all = legal-more n c.args.slots middle enough h legal in
          (rw c.in-Some-2.is at c.in_ok-found.ensures.order) n y all is_y;
      found = λ n x y legal is_x is_y.
          let all = legal-more n c.args.slots middle enough h legal in
          turns_round n middle (chart_of h) (place_after steps c.args.earlier x) (place_after steps c.args.receive y) c.in-Some-2.found.items (rw c.in-Some-2.is at (c.in_ok-found.ensures.found n x y all is_x is_y)) (rw c.in-Some-2.is at c.in_ok-found.ensures.outside);
      none = c.loop-least.invariant.none;
    }

pub loop-least-preserved : goal.loop-least-preserved
loop-least-preserved c =
    let steps = c.args.steps.now in
    let h = history_of steps in
    let middle = c.next_try-middle.result in
    let enough : c.args.slots ≤ middle = omega arith in
    record {
      begun = omega arith;
      order = omega arith;
      limit = c.loop-least.invariant.limit;
      kept = c.loop-least.invariant.kept;
      found = c.loop-least.invariant.found;
      none = λ n x y legal is_x is_y k low high.
          let all = legal-more n c.args.slots middle enough h legal in
          none_with_fewer n middle h (place_after steps c.args.earlier x) (place_after steps c.args.receive y) (rw c.in-None-2.is at (c.in_ok-found.ensures.found n x y all is_x is_y)) k (omega arith);
    }

pub returns-clause-reordered : goal.returns-clause-reordered
returns-clause-reordered c = λ n x y legal is_x is_y. (
  c.loop-least.invariant.found n x y legal is_x is_y,
  record {
    begun = omega arith;
    least = λ k low high possible. c.loop-least.invariant.none n x y legal is_x is_y k low (omega arith);
  },
)

pub returns-clause-order : goal.returns-clause-order
returns-clause-order c = c.loop-least.invariant.kept
