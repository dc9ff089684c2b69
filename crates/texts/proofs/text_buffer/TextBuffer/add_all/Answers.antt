use Rattle.texts.proofs.Writes.{buffers_more, adds_in}
use Rattle.texts.proofs.text_buffer.TextBuffer.add_all.Goals as goal

pub loop-piece-preserved : goal.loop-piece-preserved
loop-piece-preserved g c = buffers_more (λ p. p.now) c.args.pieces.now c.loop-piece.piece-index _ c.loop-piece-test.true c.loop-piece.invariant c.in_ok-add.ensures

pub returns-in_err-add : goal.returns-in_err-add
returns-in_err-add g c = adds_in (λ p. p.now) c.from_residual.result c.args.pieces.now c.loop-piece.piece-index _ c.from_residual.ensures.0 c.loop-piece-test.true c.loop-piece.invariant c.in_err-add.ensures
