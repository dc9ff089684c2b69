use Rattle.texts.proofs.Writes.{buffers_more, adds_in}
use Rattle.texts.specs.Pieces.Pieces.{escaped_byte}
use Rattle.texts.proofs.pieces.pieces.add_escaped.Goals as goal

pub loop-byte-preserved : goal.loop-byte-preserved
loop-byte-preserved g c = buffers_more (escaped_byte) c.args.bytes.now c.loop-byte.byte-index 0 c.loop-byte-test.true c.loop-byte.invariant c.in_ok-add_escaped_byte.ensures

pub returns-in_err-add_escaped_byte : goal.returns-in_err-add_escaped_byte
returns-in_err-add_escaped_byte g c = adds_in (escaped_byte) c.from_residual.result c.args.bytes.now c.loop-byte.byte-index 0 c.from_residual.ensures.0 c.loop-byte-test.true c.loop-byte.invariant c.in_err-add_escaped_byte.ensures
