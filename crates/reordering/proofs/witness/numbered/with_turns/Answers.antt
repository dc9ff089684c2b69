use Rattle.std.proofs.Common.{◌+◌, ◌<◌, ◌^◌, [], length, take, refl, sym, subst, arith, length-take}
use Rattle.std.proofs.lemmas.Option.{slice_get_read}
use Rattle.reordering.proofs.OtherRunsLemmas.Counted.{sends_short, receives_short}
use Rattle.reordering.specs.Witness.Steps.{AreNumbered, HavePassed}
use Rattle.chart.specs.RunSteps.Steps.{history_of}
use Rattle.reordering.proofs.WitnessLemmas.StepLemmas.{numbered-none, numbered-push}
use Rattle.chart.proofs.RunStepsLemmas.StepLemmas.{history-next, after-length}
use Rattle.reordering.proofs.witness.numbered.with_turns.Goals as goal

pub loop-place-init : goal.loop-place-init
loop-place-init c = (c.in_ok-passed.ensures, subst (AreNumbered c.args.steps.now 0) (sym c.new-numbered.ensures.items) (numbered-none c.args.steps.now))

pub next-turn-requires : goal.next-turn-requires
next-turn-requires c =
    let front = take c.loop-place.place c.args.steps.now in
    let few : length (history_of front) + 1 < 2 ^ 64 = omega (arith, after-length [] front, length-take c.loop-place.place c.args.steps.now, c.loop-place-test.true, c.loop-place.auto.place-end) in (
      history_of front,
      c.loop-place.invariant.0,
      λ q p. (omega (arith, few, sends_short (history_of front) q p), omega (arith, few, receives_short (history_of front) q p)),
    )

pub loop-place-preserved : goal.loop-place-preserved
loop-place-preserved c =
    let steps = c.args.steps.now in
    let place = c.loop-place.place in
    let is = slice_get_read steps (length steps) place c.index-steps-place.result refl (omega (arith, c.loop-place-test.true)) c.index-steps-place.is in
    let next = c.next-turn.ensures (history_of (take place steps)) c.loop-place.invariant.0 in (
      subst (HavePassed c.next-turn.new.self.sends c.next-turn.new.self.receives) (sym (history-next steps place c.index-steps-place.result is)) next.1,
      subst (AreNumbered steps (place + 1)) (sym c.in_ok-push.ensures.items) (numbered-push steps place c.loop-place.numbered.items (record { step = c.index-steps-place.result; turn = c.next-turn.result }) c.loop-place.invariant.1 is next.0),
    )
