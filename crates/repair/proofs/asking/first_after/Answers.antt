use Rattle.std.proofs.Common.{◌≡◌, inl, inr, sym, ◌∙◌, subst, arith}
use Rattle.std.proofs.lemmas.Bool.{cases_lt, false≢true}
use Rattle.chart.specs.Charts.{at, chart_lines}
use Rattle.chart.specs.Order.{Before}
use Rattle.chart.proofs.Chains.{before_events}
use Rattle.closure.specs.Faults.{place_of}
use Rattle.repair.proofs.asking.first_after.Goals as goal

pub is_before_some-requires-clause-none : goal.is_before_some-requires-clause-none
is_before_some-requires-clause-none c = λ i low before. let w = (before_events before).1.0 in omega arith

pub returns-then-not-branch : goal.returns-then-not-branch
returns-then-not-branch c = c.in_ok-is_before_some.ensures.1 (λ yes'. false≢true (sym c.if-not-branch.true ∙ yes'))

pub loop-high-init : goal.loop-high-init
loop-high-init c =
    let some = c.in_ok-is_before_some.ensures.0 c.if-not-branch.false in
    let low = (before_events some.2).1.0 in
    (omega (arith, some.1, low), omega arith, λ i low before. let w = (before_events before).1.0 in omega arith, some)

pub returns : goal.returns
returns c =
    let v = c.loop-high.invariant in
    let d = chart_lines c.args.closure.now in
    let s = place_of c.args.send.now in
    let some = v.3 in
    let test = c.loop-high-test.false in
    let last : some.0 ≡ c.loop-high.high = elim (cases_lt some.0 c.loop-high.high) [
      | inl less ↦ absurd (v.2 some.0 (omega (arith, less, test)) some.2)
      | inr le ↦ omega (arith, le, some.1)
    ] in
    (v.1, (subst (λ i. Before d s (at c.args.instance i)) last some.2, λ j less before. v.2 j (omega (arith, less, test)) before))

pub loop-high-preserved : goal.loop-high-preserved
loop-high-preserved c =
    let v = c.loop-high.invariant in
    let test = c.loop-high-test.true in
    (omega (arith, v.0, test), v.1, c.in_ok-is_before_some-2.ensures.1 (λ yes'. false≢true (sym c.if-branch.false ∙ yes')), v.3)
