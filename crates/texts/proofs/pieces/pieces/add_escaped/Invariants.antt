use Rattle.std.proofs.Common.{take}
use Rattle.std.specs.List.{flat_map}
use Rattle.texts.specs.Writing.{Buffers}
use Rattle.texts.specs.Pieces.Pieces.{escaped_byte}
use Rattle.texts.proofs.pieces.pieces.add_escaped.Given as goal

-- the bytes so far were added
abbrev pub invariant-loop-byte : goal.invariant-loop-byte
invariant-loop-byte g l = Buffers g.W.Out.sink l.initial.text l.text (flat_map (escaped_byte) (take l.byte-index l.bytes))
