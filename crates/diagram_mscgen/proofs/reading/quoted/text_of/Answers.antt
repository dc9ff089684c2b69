use Rattle.std.proofs.Common.{sym, ◌∙◌}
use Rattle.diagram_mscgen.specs.Reading.Texts.{text_of}
use Rattle.diagram_mscgen.proofs.ReadingLemmas.Loops.{bytes_end}
use Rattle.diagram_mscgen.proofs.reading.quoted.text_of.Goals as goal

pub returns : goal.returns
unfolding text_of
returns c = c.in_ok-add_end.ensures ∙ sym (bytes_end _ _ _ _ c.loop-byte-test.false) ∙ c.loop-byte.invariant
