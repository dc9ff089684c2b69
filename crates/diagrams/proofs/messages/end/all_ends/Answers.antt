use Rattle.std.proofs.Common.{sym, ◌∙◌}
use Rattle.diagrams.proofs.MessagesLemmas.LineLemmas.{ends_more, ends_end}
use Rattle.diagrams.proofs.messages.end.all_ends.Goals as goal

pub loop-message-preserved : goal.loop-message-preserved
loop-message-preserved c = ends_more _ _ _ _ _ c.loop-message-test.true c.message-item.is c.in_ok-add_ends.ensures ∙ c.loop-message.invariant

pub returns : goal.returns
returns c = sym (ends_end _ _ _ c.loop-message-test.false) ∙ c.loop-message.invariant
