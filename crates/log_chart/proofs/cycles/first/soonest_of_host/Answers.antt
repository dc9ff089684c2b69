use Rattle.std.proofs.Common.{arith}
use Rattle.log_chart.proofs.CyclesLemmas.FirstLemmas.{gone_none, gone_before, gone_more, gone_all}
use Rattle.log_chart.proofs.cycles.first.soonest_of_host.Goals as goal

pub soonest_with-requires-clause-within : goal.soonest_with-requires-clause-within
soonest_with-requires-clause-within c = λ a b d. let inside = c.requires.sources.within a b d in omega (arith, inside, c.loop-line.invariant.whole)

pub soonest_with-requires-clause-before : goal.soonest_with-requires-clause-before
soonest_with-requires-clause-before c =
    gone_before c.args.lines.now c.args.count c.args.sources.now.above.items c.args.sources.now.sends.items c.args.host c.loop-line.line-index c.loop-line.past.seen.items c.loop-line.past.stack.items
    c.args.found c.loop-line.soonest c.line-item.result c.requires.lines c.requires.sources c.loop-line-test.true c.line-item.is c.loop-line.invariant

pub loop-line-init : goal.loop-line-init
loop-line-init c = gone_none c.args.lines.now c.args.count c.args.sources.now.above.items c.args.sources.now.sends.items c.args.host _ _ c.args.found c.in_ok-past.ensures.seen c.in_ok-past.ensures.stack c.requires.found

pub loop-line-preserved : goal.loop-line-preserved
loop-line-preserved c =
    gone_more c.args.lines.now c.args.count c.args.sources.now.above.items c.args.sources.now.sends.items c.args.host c.loop-line.line-index c.loop-line.past.seen.items c.loop-line.past.stack.items
    c.args.found c.loop-line.soonest c.line-item.result c.requires.lines c.requires.sources c.loop-line-test.true c.line-item.is c.loop-line.invariant _ _ _ c.in_ok-soonest.ensures

pub returns : goal.returns
returns c = record {
  found = c.loop-line.invariant.here;
  ahead = c.loop-line.invariant.ahead;
  soonest =
      gone_all c.args.lines.now c.args.count c.args.sources.now.above.items c.args.sources.now.sends.items c.args.host c.loop-line.line-index c.loop-line.past.seen.items c.loop-line.past.stack.items
      c.args.found c.loop-line.soonest c.loop-line-test.false c.loop-line.invariant;
}

pub soonest_with-requires-clause-stack : goal.soonest_with-requires-clause-stack
soonest_with-requires-clause-stack c = c.loop-line.invariant.empty

pub soonest_with-requires-clause-closed : goal.soonest_with-requires-clause-closed
soonest_with-requires-clause-closed c = c.loop-line.invariant.closed
