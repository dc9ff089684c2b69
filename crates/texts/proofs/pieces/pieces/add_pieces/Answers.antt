use Rattle.texts.proofs.Writes.{buffers_more, adds_in}
use Rattle.texts.specs.Pieces.Pieces.{piece_text}
use Rattle.texts.proofs.pieces.pieces.add_pieces.Goals as goal

pub loop-piece-preserved : goal.loop-piece-preserved
loop-piece-preserved g c = buffers_more piece_text c.args.pieces.now c.loop-piece.piece-index _ c.loop-piece-test.true c.loop-piece.invariant c.in_ok-add_piece.ensures

pub returns-in_err-add_piece : goal.returns-in_err-add_piece
returns-in_err-add_piece g c = adds_in piece_text c.from_residual.result c.args.pieces.now c.loop-piece.piece-index _ c.from_residual.ensures.0 c.loop-piece-test.true c.loop-piece.invariant c.in_err-add_piece.ensures
