use Rattle.std.proofs.Common.{sym, ◌∙◌, arith}
use Rattle.closure.proofs.LinkLemmas.{IsNextSend-at}
use Rattle.closure.proofs.cycle.passing.next_send.Goals as goal

pub returns-then-is_next-clause-next : goal.returns-then-is_next-clause-next
returns-then-is_next-clause-next c = IsNextSend-at c.args.events.now c.args.receiver c.args.passed c.loop-index.index c.index-events-index.result (omega arith) c.index-events-index.is (sym c.is_send_to-is_next.ensures ∙ c.if-is_next.true) c.loop-index.invariant.1
