use Rattle.std.proofs.Common.{◌≡◌, sym, ap, ◌∙◌}
use Rattle.log_chart.proofs.ChainLemmas.{chains_same}
use Rattle.log_chart.proofs.MatchingLemmas.{left_at, left_more, matched_more, matched_end}
use Rattle.log_chart.specs.Matching.{send_for}
use Rattle.log_chart.proofs.matching.matched.Goals as goal

pub loop-number-preserved : goal.loop-number-preserved
loop-number-preserved c =
    let log = c.args.log.now in
    let n = c.loop-number.number in
    let e = c.index-log-number.result in
    let send : c.send_for-send.result ≡ send_for (left_at log n) e = c.send_for-send.ensures.value (left_at log n) c.loop-number.invariant.left in
    record {
      lists = c.send_for-send.ensures.lists ∙ c.loop-number.invariant.lists;
      left = chains_same _ _ _ _ (λ d. ap (λ f. f d) (left_more log n e c.loop-number-test.true c.index-log-number.is)) (c.send_for-send.ensures.left (left_at log n) c.loop-number.invariant.left);
      so_far = matched_more log c.loop-number.lines.items _ n e c.send_for-send.result c.loop-number-test.true c.index-log-number.is send c.in_ok-push.ensures.items
          ∙ c.loop-number.invariant.so_far;
    }

pub returns : goal.returns
returns c = sym (matched_end _ _ _ _ c.loop-number-test.false) ∙ c.loop-number.invariant.so_far
