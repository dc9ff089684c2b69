use Rattle.std.proofs.Common.{refl, sym, ◌∙◌}
use Rattle.diagram_import.proofs.TextLemmas.{count_more, begun_end, ended_end}
use Rattle.diagram_import.proofs.skipping.count_of_lines.Goals as goal

pub loop-byte-preserved : goal.loop-byte-preserved
loop-byte-preserved c = count_more c.loop-byte.count _ _ c.loop-byte.begun _ c.args.text.now c.loop-byte-test.true c.in_ok-count.ensures refl ∙ c.loop-byte.invariant

pub returns-then-not-begun : goal.returns-then-not-begun
returns-then-not-begun c = sym (ended_end c.loop-byte.count _ c.loop-byte.begun c.args.text.now c.loop-byte-test.false c.if-not-begun.true) ∙ c.loop-byte.invariant

pub returns : goal.returns
returns c = c.in_ok-all.ensures ∙ sym (begun_end c.loop-byte.count _ c.loop-byte.begun c.args.text.now c.loop-byte-test.false c.if-not-begun.false) ∙ c.loop-byte.invariant
