use Rattle.std.proofs.Common.{◌≡◌, ◌+◌, ◌-◌, sym, ◌∙◌, arith}
use Rattle.log_chart.proofs.ChainLemmas.{chains_same}
use Rattle.log_chart.proofs.MatchingLemmas.{no_sends, sends_above, sends_put, sends_kept}
use Rattle.log_chart.proofs.matching.sends_of.Goals as goal

pub entries-init : goal.entries-init
entries-init c = record {
  within = omega arith;
  lists = c.in_ok-sends.ensures.lists;
  numbers = c.in_ok-sends.ensures.numbers;
  sends = chains_same _ _ _ _ (λ d. no_sends _ c.args.log.now d (omega arith)) c.in_ok-sends.ensures.none;
}

pub entries-preserved-then-is_send : goal.entries-preserved-then-is_send
entries-preserved-then-is_send c =
    let more : c.entries.count - 1 + 1 ≡ c.entries.count = omega (arith, c.entries-test.true) in
    record {
      within = omega (arith, c.entries.invariant.within);
      lists = c.put_first.ensures.lists ∙ c.entries.invariant.lists;
      numbers = c.put_first.ensures.numbers ∙ c.entries.invariant.numbers;
      sends = chains_same _ _ _ _ (sends_put c.args.log.now (c.entries.count - 1) c.entries.count c.index-log-count.result more (omega (arith, c.entries.invariant.within)) c.index-log-count.is (sym c.is_send.ensures ∙ c.if-is_send.true))
          (c.put_first.ensures.put _ c.entries.invariant.sends (λ d. sends_above _ _ _ d (omega arith)));
    }

pub entries-preserved : goal.entries-preserved
entries-preserved c =
    let more : c.entries.count - 1 + 1 ≡ c.entries.count = omega (arith, c.entries-test.true) in
    record {
      within = omega (arith, c.entries.invariant.within);
      lists = c.entries.invariant.lists;
      numbers = c.entries.invariant.numbers;
      sends = chains_same _ _ _ _ (sends_kept c.args.log.now (c.entries.count - 1) c.entries.count c.index-log-count.result more (omega (arith, c.entries.invariant.within)) c.index-log-count.is (sym c.is_send.ensures ∙ c.if-is_send.false))
          c.entries.invariant.sends;
    }
