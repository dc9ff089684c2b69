use Rattle.std.proofs.Common.{sym, ◌∙◌}
use Rattle.diagram_import.specs.Margin.Plain.{plain_text}
use Rattle.diagram_import.proofs.MarginLemmas.Loops.{plain_more, plain_end}
use Rattle.diagram_import.proofs.margin.plain.plain_text.Goals as goal

pub loop-byte-preserved : goal.loop-byte-preserved
loop-byte-preserved c = plain_more c.loop-byte.escaped _ c.loop-byte.byte-index c.args.raw.now c.loop-byte.element.items _ c.loop-byte-test.true c.in_ok-add_byte.ensures c.waits-escaped.ensures ∙ c.loop-byte.invariant

pub returns : goal.returns
unfolding plain_text
returns c = c.in_ok-add_end.ensures ∙ sym (plain_end _ _ _ _ c.loop-byte-test.false) ∙ c.loop-byte.invariant
