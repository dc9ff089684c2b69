use Rattle.std.proofs.Common.{◌≡◌, suc, inl, inr, refl, sym, ap, ◌∙◌, subst, arith}
use Rattle.std.proofs.lemmas.Bool.{cases_lt, false≢true}
use Rattle.chart.specs.Events.{is_send_to}
use Rattle.chart.specs.Charts.{chart_lines}
use Rattle.chart.proofs.Belongs.{IsEvent-from_passes}
use Rattle.closure.specs.Faults.{place_of}
use Rattle.closure.proofs.ReadLemmas.{instance_within}
use Rattle.repair.specs.Crossings.{IsHeardFrom}
use Rattle.repair.proofs.HeardLemmas.{heard_before, before_heard}
use Rattle.repair.proofs.asking.is_before_some.Goals as goal

pub returns-then-branch : goal.returns-then-branch
returns-then-branch c = (
  λ _. before_heard (chart_lines c.args.closure.now) (place_of c.args.send.now) c.args.stretch.now.instance c.args.stretch.now.low c.args.stretch.now.high c.at_place.result (c.in_ok-is_heard_from.ensures.0 c.if-branch.true),
  λ no'. absurd (no' refl),
)

pub loop-place-preserved : goal.loop-place-preserved
loop-place-preserved c = λ q less heard. elim (cases_lt q c.loop-place.place) [
  | inl before ↦ c.loop-place.invariant q before heard
  | inr le ↦
      let d = chart_lines c.args.closure.now in
      let s = place_of c.args.send.now in
      let here : q ≡ c.loop-place.place = omega arith in
      let its = ap suc here ∙ sym c.at_place.ensures in
      let so = subst (IsHeardFrom d s c.args.stretch.now.instance c.args.stretch.now.low c.args.stretch.now.high) its heard in
      false≢true (sym c.if-branch.false ∙ c.in_ok-is_heard_from.ensures.1 so)
]

pub returns : goal.returns
returns c = (
  λ never. absurd (false≢true never),
  λ _ i up before.
      let d = chart_lines c.args.closure.now in
      let s = place_of c.args.send.now in
      let p = c.args.stretch.now.instance in
      let low = c.args.stretch.now.low in
      let high = c.args.stretch.now.high in
      let w = heard_before d s p low high i c.requires.other c.requires.none up before in
      let there = instance_within c.args.closure.now w.1.1 (IsEvent-from_passes d (is_send_to p) w.1.1 w.1.5.sent) in
      let number = sym w.1.4 ∙ there.1 in
      c.loop-place.invariant there.0 (omega (arith, there.2, c.loop-place-test.false, c.len-place-end.ensures.value)) (subst (IsHeardFrom d s p low high) number w.1),
)
