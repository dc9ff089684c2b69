use Rattle.std.proofs.Common.{sym, ◌∙◌}
use Rattle.cmd_compare.specs.Ends.{is_at}
use Rattle.cmd_compare.proofs.MatchLemmas.{IsNext-at}
use Rattle.cmd_compare.proofs.matching.next_at.Goals as goal

pub returns-then-is_next : goal.returns-then-is_next
returns-then-is_next c = IsNext-at (is_at c.args.end.now) c.args.events.now c.args.passed c.loop-index.index c.index-events-index.result c.loop-index-test.true c.index-events-index.is (sym c.has-is_next.ensures ∙ c.if-is_next.true) c.loop-index.invariant.1
