use Rattle.std.proofs.Common.{sym, ◌∙◌}
use Rattle.diagram_import.proofs.TextLemmas.{byte_kept, kept_end}
use Rattle.diagram_import.proofs.skipping.blanked.Goals as goal

pub loop-byte-preserved : goal.loop-byte-preserved
loop-byte-preserved c =
    byte_kept c.args.skips.now c.loop-byte.line _ c.loop-byte.byte-index c.args.text.now c.loop-byte.bytes.items _ c.read_byte.result c.loop-byte-test.true
    c.read_byte.ensures c.in_ok-push.ensures.items c.in_ok-line.ensures ∙ c.loop-byte.invariant

pub returns : goal.returns
returns c = sym (kept_end _ _ _ _ _ c.loop-byte-test.false) ∙ c.loop-byte.invariant
