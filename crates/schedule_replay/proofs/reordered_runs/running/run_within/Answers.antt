use Rattle.std.proofs.Common.{◌≡◌, ℕ, ◌+◌, ◌<◌, false, true, [], ◌∷◌, length, slice_index, refl, sym, ap, ◌∙◌, subst, subst₂, arith}
use Rattle.std.proofs.lemmas.Bool.{MatchBool-at_true, MatchBool-at_false}
use Rattle.std.proofs.lemmas.List.{length-replicate, length-set}
use Rattle.chart.specs.declared.instance.TheConstants.{MAX_INSTANCES}
use Rattle.chart.specs.Charts.{IsChart, IsPossible, chart_lines}
use Rattle.closure.proofs.RunLemmas.{left, left-less}
use Rattle.reordering.specs.OtherRuns.OtherRuns.{IsPossibleWithin}
use Rattle.reordering.specs.Witness.Steps.{HavePassed}
use Rattle.chart.specs.RunSteps.Steps.{occurrence_of, history_of}
use Rattle.chart.proofs.RunStepsLemmas.StepLemmas.{after-append}
use Rattle.schedule_replay.specs.ReorderedRuns.Runs.{IsChartRun, IsInTurn, last_line}
use Rattle.schedule_replay.proofs.ReorderedRunsLemmas.GoingOn.{IsGoing, IsGoing-start, IsGoing-next, IsChartRun-done, maker-next, left-next, room-next}
use Rattle.schedule_replay.proofs.ReorderedRunsLemmas.InTurn.{some_goes_on, maker-by, goes-from}
use Rattle.schedule_replay.proofs.ReorderedRunsLemmas.Slots.{lanes-short}
use Rattle.schedule_replay.proofs.ReorderedRunsLemmas.Stopping.{stopped_early}
use Rattle.schedule_replay.proofs.reordered_runs.running.run_within.Goals as goal

pub loop-step-init : goal.loop-step-init
loop-step-init c =
    let lines = c.lines-lines.result.now in
    let chart : IsChart lines = subst IsChart (sym c.lines-lines.ensures.value) c.lines-lines.ensures.chart in
    record {
      going = rw (c.new-steps.ensures.items, c.in_ok-going.ensures.1) (IsGoing-start (length lines) c.args.slots MAX_INSTANCES (chart_lines lines));
      passed = rw c.new-steps.ensures.items c.in_ok-going.ensures.0;
      whole = ap length c.in_ok-going.ensures.1 ∙ length-replicate {A = ℕ} MAX_INSTANCES 0;
      hint = omega (arith, chart.several);
      last = rw c.new-steps.ensures.items refl;
      turn = rw c.new-steps.ensures.items tt;
    }

pub make-requires-clause-some : goal.make-requires-clause-some
make-requires-clause-some c =
    let h = history_of c.loop-step.steps.items in
    (h, c.loop-step.invariant.passed, lanes-short (length c.lines-lines.result.now) c.args.slots h c.loop-step.invariant.going.legal)

pub make-requires-clause-room : goal.make-requires-clause-room
make-requires-clause-room c =
    let lines = c.lines-lines.result.now in
    let h = history_of c.loop-step.steps.items in
    let chart : IsChart lines = subst IsChart (sym c.lines-lines.ensures.value) c.lines-lines.ensures.chart in
    let goes = some_goes_on (chart_lines lines) (length lines) c.args.slots h c.loop-step.going.made c.loop-step.line c.in-Some.step c.loop-step.invariant.hint (c.in-Some.ensures h c.loop-step.invariant.passed) in
    room-next lines c.args.slots h c.loop-step.going.made goes.0 c.in-Some.step chart goes.1 goes.2

pub loop-step-smaller : goal.loop-step-smaller
loop-step-smaller c =
    let lines = c.lines-lines.result.now in
    let h = history_of c.loop-step.steps.items in
    let made = c.loop-step.going.made in
    let chart : IsChart lines = subst IsChart (sym c.lines-lines.ensures.value) c.lines-lines.ensures.chart in
    let goes = some_goes_on (chart_lines lines) (length lines) c.args.slots h c.loop-step.going.made c.loop-step.line c.in-Some.step c.loop-step.invariant.hint (c.in-Some.ensures h c.loop-step.invariant.passed) in
    let its = maker-next (chart_lines lines) c.args.slots h made goes.0 c.in-Some.step goes.2 in
    subst (λ new. left (chart_lines lines) (length lines) new < left (chart_lines lines) (length lines) made) (sym (c.make.ensures.made goes.0 its))
    (left-less (chart_lines lines) (length lines) goes.0 made goes.1 (omega (arith, goes.1, chart.limit, c.loop-step.invariant.whole)) (left-next (chart_lines lines) c.args.slots h made goes.0 c.in-Some.step goes.2))

pub loop-step-preserved : goal.loop-step-preserved
loop-step-preserved c =
    let lines = c.lines-lines.result.now in
    let steps = c.loop-step.steps.items in
    let h = history_of steps in
    let made = c.loop-step.going.made in
    let x = c.in-Some.step in
    let chart : IsChart lines = subst IsChart (sym c.lines-lines.ensures.value) c.lines-lines.ensures.chart in
    let possible : IsPossible (length lines) (chart_lines lines) = subst (λ l. IsPossible (length l) (chart_lines l)) (sym c.lines-lines.ensures.value) c.requires in
    let goes = some_goes_on (chart_lines lines) (length lines) c.args.slots h c.loop-step.going.made c.loop-step.line c.in-Some.step c.loop-step.invariant.hint (c.in-Some.ensures h c.loop-step.invariant.passed) in
    let its = maker-next (chart_lines lines) c.args.slots h made goes.0 x goes.2 in
    let more : history_of c.push.new.self.items ≡ occurrence_of x ∷ h = ap history_of c.in_ok-push.ensures.items ∙ after-append [] steps (x ∷ []) in
    let new = c.make.ensures.made goes.0 its in
    record {
      going = subst₂ (λ f m. IsGoing (length lines) c.args.slots (chart_lines lines) f m) (sym more) (sym new) (IsGoing-next lines c.args.slots h made goes.0 chart possible c.loop-step.invariant.whole c.loop-step.invariant.going goes.1 x goes.2);
      passed = subst (HavePassed c.make.new.self.passed.sends c.make.new.self.passed.receives) (sym more) (c.make.ensures.passed h c.loop-step.invariant.passed);
      whole = ap length new ∙ length-set made goes.0 (slice_index made goes.0 + 1) ∙ c.loop-step.invariant.whole;
      hint = omega (arith, c.place-line.ensures.value, c.maker.ensures, its, goes.1);
      last = subst (λ f. c.place-line.result ≡ last_line f) (sym more) (let one = maker-by x in omega (arith, c.place-line.ensures.value, c.maker.ensures, one));
      turn = subst (IsInTurn (chart_lines lines) (length lines) c.args.slots) (sym more) (
        goes-from (length lines) c.args.slots (chart_lines lines) h made c.loop-step.invariant.going c.loop-step.line x c.loop-step.invariant.last (c.in-Some.ensures h c.loop-step.invariant.passed),
        c.loop-step.invariant.turn,
      );
    }

pub returns-then-not-is_done : goal.returns-then-not-is_done
returns-then-not-is_done c =
    let lines = c.lines-lines.result.now in
    let h = history_of c.loop-step.steps.items in
    let undone : c.is_done.result ≡ false = cc in
    let some = MatchBool-at_false _ _ undone c.is_done.ensures in
    let stopped = c.in_default.ensures h c.loop-step.invariant.passed in
    subst (λ l. IsPossibleWithin (length l) c.args.slots (chart_lines l) → ⊥) c.lines-lines.ensures.value
    (stopped_early (length lines) c.args.slots (chart_lines lines) h c.loop-step.going.made c.loop-step.invariant.going stopped some.0 some.2)

pub returns : goal.returns
returns c =
    let lines = c.lines-lines.result.now in
    let done : c.is_done.result ≡ true = cc in
    let all = MatchBool-at_true _ _ done c.is_done.ensures in
    subst (λ l. IsChartRun (length l) c.args.slots (chart_lines l) c.loop-step.steps.items) c.lines-lines.ensures.value
    (IsChartRun-done lines c.args.slots c.loop-step.steps.items c.loop-step.going.made c.loop-step.invariant.going all c.loop-step.invariant.turn)
