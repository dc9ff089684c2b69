use Rattle.std.proofs.Common.{take}
use Rattle.std.specs.List.{flat_map}
use Rattle.texts.specs.Writing.{Buffers}
use Rattle.texts.specs.Pieces.Pieces.{piece_text}
use Rattle.texts.proofs.pieces.pieces.add_pieces.Given as goal

-- the pieces so far were added
abbrev pub invariant-loop-piece : goal.invariant-loop-piece
invariant-loop-piece g l = Buffers g.W.Out.sink l.initial.text l.text (flat_map (piece_text) (take l.piece-index l.pieces))
