use Rattle.std.specs.Prelude.{Option, None, Some}
use mir.Raw.{raw}
use base.Fraction.{full_share}
use base.Shift.{Keyless}
use denote.Memory.{lone}
use denote.RawPtr.{Ptr, block_ptr, null_ptr}
use denote.Param.Send.{IsSend, part_keyless}
use Rattle.std.proofs.Crossing.{frees}
use Rattle.c_board.specs.declared.kept.Kept.{Kept}
use Rattle.c_board.specs.Cells.{slot_owns}
use Rattle.c_board.specs.contracts.kept.Kept as kept
use Rattle.c_board.specs.contracts.slot.Slot.{the_row}
use Rattle.c_board.proofs.kept.Kept.TheSendSync as crossing

slot_keyless : (p : Ptr) (o : Option Kept) → Keyless (slot_owns p o)
slot_keyless p None = tt
slot_keyless null_ptr (Some x) = λ g. (tt, frees.frees g (raw (lone (kept.the_row).mir)) null_ptr)
slot_keyless (block_ptr b o) (Some x) = λ g. (part_keyless kept.the_row crossing.the_send full_share x b o, frees.frees g (raw (lone (kept.the_row).mir)) (block_ptr b o))

pub send : IsSend the_row
send = record { owned = λ d vs. ((λ vss. (tt, (tt, tt))), slot_keyless d.at d.value); leaving = λ k d w. tt }
