use Rattle.std.proofs.Common.{◌≡◌, ◌≢◌, ◌+◌, Some, length, take, take_all, refl, sym, ap, ap₂, ◌∙◌, subst, arith, eqb-true}
use Rattle.std.proofs.lemmas.Bool.{eqb-false}
use Rattle.std.specs.Prelude.{slice_get}
use Rattle.std.proofs.lemmas.Option.{slice_get_read}
use Rattle.chart.specs.Charts.{at}
use Rattle.chart.specs.Histories.{chart_of}
use Rattle.chart.specs.RunSteps.Steps.{history_of, maker_of}
use Rattle.schedule_replay.proofs.ReorderedRunsLemmas.StepsMade.{by-step, made-own, made-other}
use Rattle.schedule_replay.proofs.reordered_runs.steps.step_of.Goals as goal
use Rattle.schedule_replay.proofs.reordered_runs.steps.step_of.Goals.{then-eq+else-made-event, else-eq}

pub returns-then-made-event : goal.returns-then-made-event
returns-then-made-event c = λ n k legal.
    let steps = c.args.steps.now in
    let i = c.loop-place.place in
    let x = c.index-steps-place.result in
    let is : slice_get steps i ≡ Some x = slice_get_read steps (length steps) i x refl c.loop-place-test.true c.index-steps-place.is in
    let its = by-step x ∙ sym c.maker.ensures ∙ eqb-true c.maker.result c.args.event.instance (sym c.eq.ensures ∙ c.if-eq.true) in
    let number = ap (λ p. length (chart_of (history_of (take i steps)) p) + 1) its ∙ ap (λ j. j + 1) (sym (c.loop-place.invariant.many n k legal)) ∙ c.if-made-event.true in
    (x, is, ap₂ (λ p j. at p j) its number)

pub loop-place-preserved : goal.loop-place-preserved
loop-place-preserved c =
    let steps = c.args.steps.now in
    let i = c.loop-place.place in
    let x = c.index-steps-place.result in
    let p = c.args.event.instance in
    let is : slice_get steps i ≡ Some x = slice_get_read steps (length steps) i x refl c.loop-place-test.true c.index-steps-place.is in
    record {
      few = elim c.if-eq.branch [
        | then-eq+else-made-event w ↦ omega (arith, w.made-is, c.loop-place.invariant.few)
        | else-eq w ↦ omega (arith, w.made-is, c.loop-place.invariant.few)
      ];
      below = λ one. elim c.if-eq.branch [
        | then-eq+else-made-event w ↦ omega (arith, w.made-is, w.if-made-event.false, c.loop-place.invariant.below one)
        | else-eq w ↦ omega (arith, w.made-is, c.loop-place.invariant.below one)
      ];
      many = λ n k legal. elim c.if-eq.branch [
        | then-eq+else-made-event w ↦
            let its : maker_of x ≡ p = sym c.maker.ensures ∙ eqb-true c.maker.result p (sym c.eq.ensures ∙ w.if-eq.true) in
            let grew = subst (λ q. length (chart_of (history_of (take (i + 1) steps)) q) ≡ length (chart_of (history_of (take i steps)) q) + 1) its (made-own n k steps legal i x is) in
            w.made-is ∙ ap (λ j. j + 1) (c.loop-place.invariant.many n k legal) ∙ sym grew
        | else-eq w ↦
            let other : maker_of x ≢ p = λ e. eqb-false c.maker.result p (sym c.eq.ensures ∙ w.if-eq.false) (c.maker.ensures ∙ e) in
            w.made-is ∙ c.loop-place.invariant.many n k legal ∙ sym (made-other n k steps legal i x is p other)
      ];
    }

pub returns : goal.returns
returns c = λ n k legal here.
    let all = take_all c.loop-place.place c.args.steps.now c.loop-place-test.false in
    let many = c.loop-place.invariant.many n k legal ∙ ap (λ s. length (chart_of (history_of s) c.args.event.instance)) all in
    let below = c.loop-place.invariant.below here.0 in
    let within = here.1 in
    omega (arith, many, below, within)
