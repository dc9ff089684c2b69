use Rattle.std.proofs.Common.{sym, ◌∙◌}
use Rattle.diagram_import.proofs.TextLemmas.{overtaking_more, overtaking_end}
use Rattle.diagram_import.proofs.importing.first_overtaking.Goals as goal

pub loop-message-preserved : goal.loop-message-preserved
loop-message-preserved c = overtaking_more _ _ _ _ _ c.loop-message-test.true c.with_place-first.ensures ∙ c.loop-message.invariant

pub returns : goal.returns
returns c = sym (overtaking_end _ _ _ c.loop-message-test.false) ∙ c.loop-message.invariant
