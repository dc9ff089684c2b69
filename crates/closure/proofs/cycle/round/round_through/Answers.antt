use Rattle.std.proofs.Common.{suc, sym, subst, arith, add-one}
use Rattle.chart.specs.Charts.{at}
use Rattle.closure.specs.Cycle.Fronts.{IsLead}
use Rattle.closure.proofs.CycleLemmas.LeadLemmas.{lead_short, comes_around, none_around}
use Rattle.closure.proofs.cycle.round.round_through.Goals as goal

pub step_back-requires : goal.step_back-requires
step_back-requires c = (at (suc c.args.line) (suc c.args.place), c.loop-before.before, (omega arith, omega (arith, c.requires.place)), c.loop-before.invariant.0)

pub at-last-requires : goal.at-last-requires
at-last-requires c =
    let next = c.in_ok-front-2.ensures (at (suc c.args.line) (suc c.args.place)) c.loop-before.before c.loop-before.invariant.0 in
    omega (arith, next.whole, c.requires.line)

pub at_place-requires : goal.at_place-requires
at_place-requires c = omega (arith, c.len_of.ensures.chart.limit, c.requires.line)

pub overflow_cast-send : goal.overflow_cast-send
overflow_cast-send c =
    let e = at (suc c.args.line) (suc c.args.place) in
    let next = c.in_ok-front-2.ensures e c.loop-before.before c.loop-before.invariant.0 in
    let short = lead_short c.args.hearing.now e (suc c.loop-before.before) (suc c.args.line) c.in_ok-front-2.front c.len_of.ensures.chart (omega arith, omega (arith, c.requires.place)) next in
    omega (arith, short, c.at-last.ensures)

pub returns-then-place-last : goal.returns-then-place-last
returns-then-place-last c =
    let next = c.in_ok-front-2.ensures (at (suc c.args.line) (suc c.args.place)) c.loop-before.before c.loop-before.invariant.0 in (
      comes_around c.args.hearing.now c.args.line c.args.place c.loop-before.before c.at_place.result c.at-last.result c.in_ok-front-2.front next c.at-last.ensures c.if-place-last.true c.at_place.ensures,
      omega (arith, c.loop-before-test.true),
      c.loop-before.invariant.1,
    )

pub loop-before-preserved : goal.loop-before-preserved
loop-before-preserved c =
    let e = at (suc c.args.line) (suc c.args.place) in
    let next = c.in_ok-front-2.ensures e c.loop-before.before c.loop-before.invariant.0 in (
      subst (λ k. IsLead c.args.hearing.now e k c.in_ok-front-2.front) (sym (add-one c.loop-before.before)) next,
      none_around c.args.hearing.now c.args.line c.args.place c.loop-before.before c.at-last.result c.in_ok-front-2.front next c.at-last.ensures (omega (arith, c.if-place-last.false)) c.loop-before.invariant.1,
    )
