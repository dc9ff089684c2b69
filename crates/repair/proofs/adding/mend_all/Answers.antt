use Rattle.std.proofs.Common.{◌∙◌, List, ◌+◌, subst, sym, arith}
use Rattle.repair.specs.declared.best.Addition.{Addition}
use Rattle.repair.specs.Best.{IsFound}
use Rattle.repair.proofs.BestLemmas.{best_possible, best_long, best_pairs, best_fewer}
use Rattle.repair.proofs.CountedLemmas.{best_placed}
use Rattle.repair.proofs.LimitLemmas.{GoesOn, goes_next, goes_last, goes_no_further}
use Rattle.repair.proofs.adding.mend_all.Goals as goal

pub loop-left-smaller : goal.loop-left-smaller
loop-left-smaller c =
    let counted = c.loop-left.counting in
    let found = subst (IsFound counted c.loop-left.last) c.in-Some.is c.in_ok-best.ensures in
    best_fewer counted c.loop-left.last c.in-Some.best.addition c.in-Some.best.left c.loop-left.left found.0 c.loop-left.invariant.3

pub loop-left-preserved : goal.loop-left-preserved
loop-left-preserved c =
    let begun = c.args.counted in
    let counted = c.loop-left.counting in
    let first = c.args.chart.now in
    let lines = c.loop-left.last in
    let best = c.in-Some.best in
    let found = subst (IsFound counted lines) c.in-Some.is c.in_ok-best.ensures in
    let grown = found.1 in
    let so_far = c.loop-left.invariant in
    let limit = c.args.limit in
    let tried = c.loop-left.tried in
    let count = c.loop-left.left in
    let goes = goes_next begun counted best.counted limit tried count first lines best.chart c.loop-left.additions.items best.addition best.left so_far.0 so_far.3 so_far.4 c.loop-left-test.true found.0 grown.0 grown.1 in (
      subst (λ (l : List Addition). GoesOn begun best.counted limit (tried + count) first best.chart l) (sym c.in_ok-push.ensures.items) goes,
      best_possible counted lines best.chart best.addition best.left found.0 grown.0,
      best_long lines best.chart best.addition grown.0 ∙ so_far.2,
      best_pairs counted best.counted lines best.chart best.addition best.left found.0 grown.0 grown.1,
      omega (arith, so_far.4, c.loop-left-test.true),
      best_placed counted best.counted lines best.chart best.addition best.left found.0 grown.0 grown.1 so_far.5,
    )

-- no message leaves fewer
pub returns-in_default : goal.returns-in_default
returns-in_default c =
    let counted = c.loop-left.counting in
    let found = subst (IsFound counted c.loop-left.last) c.in_default.is c.in_ok-best.ensures in
    let so_far = c.loop-left.invariant in
    record {
      added = goes_last c.args.counted counted c.args.limit c.loop-left.tried c.loop-left.left c.args.chart.now c.loop-left.last c.loop-left.additions.items so_far.0 so_far.3 c.loop-left-test.true found;
      possible = so_far.1;
      whole = so_far.2;
      left = so_far.3;
    }

-- more pairs are left than may be tried
pub returns : goal.returns
returns c =
    let counted = c.loop-left.counting in
    let so_far = c.loop-left.invariant in
    record {
      added = goes_no_further c.args.counted counted c.args.limit c.loop-left.tried c.loop-left.left c.args.chart.now c.loop-left.last c.loop-left.additions.items so_far.0 so_far.3 (omega (arith, c.loop-left-test.false));
      possible = so_far.1;
      whole = so_far.2;
      left = so_far.3;
    }
