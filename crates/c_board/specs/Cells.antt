-- What a slot owns.
use Rattle.std.specs.Prelude.{Option, None, Some}
use base.Fml.{Fml, ftrue, fex}
use denote.RawPtr.{Ptr}
use Rattle.std.specs.declared.alloc.Global.{Global}
use Rattle.std.specs.contracts.impls.GlobalAllocator.TheImpl.{ghosts}
use Rattle.std_alloc.specs.Box.Ownership.{box_owns}
use Rattle.c_board.specs.declared.kept.Kept.{Kept}
use Rattle.c_board.specs.contracts.kept.Kept.{the_row}

-- the box at the pointer has the value
abbrev pub boxed : Ptr → Kept → Global → Fml
boxed p x heap = box_owns (ghosts.dealloc_token heap) the_row p x

-- a slot owns nothing, or such a box
abbrev pub slot_owns : Ptr → Option Kept → Fml
slot_owns p None = ftrue
slot_owns p (Some x) = fex Global (boxed p x)
