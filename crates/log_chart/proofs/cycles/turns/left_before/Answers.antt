use Rattle.std.proofs.Common.{◌≡◌, ◌<◌, length, ap, ◌∙◌, subst, arith}
use Rattle.log_chart.specs.Chains.{AreChains}
use Rattle.log_chart.specs.Cycles.Turns.{left_before}
use Rattle.log_chart.proofs.ChainLemmas.{chains_same}
use Rattle.log_chart.proofs.MatchingLemmas.{left_more}
use Rattle.log_chart.proofs.cycles.turns.left_before.Goals as goal

pub loop-place-preserved : goal.loop-place-preserved
loop-place-preserved c =
    let log = c.args.log.now in
    let n = c.loop-place.place in
    let within : n < length log = omega (arith, c.loop-place-test.true, c.requires.number) in
    record {
      so_far = omega (arith, c.loop-place-test.true);
      lists = c.send_for.ensures.lists ∙ c.loop-place.invariant.lists;
      left = chains_same _ _ _ _ (λ d. ap (λ f. f d) (left_more log n c.index-log-place.result within c.index-log-place.is)) (c.send_for.ensures.left (left_before log n) c.loop-place.invariant.left);
    }

pub returns-clause-left : goal.returns-clause-left
returns-clause-left c =
    let at : c.loop-place.place ≡ c.args.number = omega (arith, c.loop-place.invariant.so_far, c.loop-place-test.false) in
    subst (λ n. AreChains c.loop-place.left.first.items c.loop-place.left.next.items (left_before c.args.log.now n)) at c.loop-place.invariant.left
