use Rattle.std.proofs.Common.{◌≡◌, ◌+◌, ◌-◌, ◌<◌, cond, length, take, refl, sym, ap, ◌∙◌, subst, arith}
use Rattle.std.proofs.lemmas.Option.{slice_get_read}
use Rattle.reordering.specs.OtherRuns.Walks.{wanted}
use Rattle.reordering.specs.Witness.Steps.{with_step, StandFor}
use Rattle.chart.specs.RunSteps.Steps.{history_of}
use Rattle.reordering.proofs.WitnessLemmas.WalkLemmas.{walk-next}
use Rattle.reordering.proofs.witness.needs.Needs.complete.Goals as goal
use Rattle.reordering.proofs.witness.needs.Needs.complete.Goals.{then-wants, else-wants}

pub loop-place-preserved : goal.loop-place-preserved
loop-place-preserved c = λ w stand.
    let steps = c.args.steps.now in
    let k = c.args.slots in
    let old = c.loop-place.invariant w stand in
    let j = length steps - 1 - c.loop-place.place in
    let t = c.index-numbered-many.result in
    let inside : j < length c.args.numbered.now = omega (arith, c.requires.whole, c.loop-place-test.true) in
    let its = c.requires.each j t (slice_get_read c.args.numbered.now (length c.args.numbered.now) j t refl inside c.index-numbered-many.is) in
    let walk = walk-next k steps j t.step t.turn old.0 its.0 its.1 c.wants.result (c.wants.ensures old.0 old.1) in
    let now : length steps - c.loop-place.place ≡ j + 1 = omega (arith, c.loop-place-test.true) in
    let less : length steps - (c.loop-place.place + 1) ≡ j = omega (arith, c.loop-place-test.true) in
    let before = sym walk ∙ ap (λ i. wanted k (history_of (take i steps)) old.0) (sym now) ∙ old.2 in
    elim c.if-wants.branch [
      | then-wants b ↦ (
        with_step k old.0 t.step t.turn,
        rw b.self-is (b.want.ensures old.0 old.1),
        ap (λ i. wanted k (history_of (take i steps)) (with_step k old.0 t.step t.turn)) less ∙ sym (ap (λ x. wanted k (history_of (take j steps)) (cond x (with_step k old.0 t.step t.turn) old.0)) b.if-wants.true) ∙ before,
      )
      | else-wants b ↦ (
        old.0,
        rw b.self-is old.1,
        ap (λ i. wanted k (history_of (take i steps)) old.0) less ∙ sym (ap (λ x. wanted k (history_of (take j steps)) (cond x (with_step k old.0 t.step t.turn) old.0)) b.if-wants.false) ∙ before,
      )
    ]

pub returns : goal.returns
returns c = λ w stand.
    let steps = c.args.steps.now in
    let last = c.loop-place.invariant w stand in
    let none : 0 ≡ length steps - c.loop-place.place = omega (arith, c.loop-place-test.false) in
    subst (λ x. StandFor c.loop-place.self.sends c.loop-place.self.receives c.loop-place.self.lines x) (ap (λ i. wanted c.args.slots (history_of (take i steps)) last.0) none ∙ last.2) last.1
