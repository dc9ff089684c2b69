use Rattle.std.proofs.Common.{take}
use Rattle.std.specs.List.{flat_map}
use Rattle.texts.specs.Writing.{Buffers}
use Rattle.texts.proofs.text_buffer.TextBuffer.add_all.Given as goal

-- the pieces so far were added
abbrev pub invariant-loop-piece : goal.invariant-loop-piece
invariant-loop-piece g l =
    Buffers g.W.Out.sink l.initial.self l.self (flat_map (λ p. p.now) (take l.piece-index l.pieces))
