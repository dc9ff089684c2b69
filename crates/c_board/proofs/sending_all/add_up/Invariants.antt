use Rattle.std.proofs.Common.{◌≡◌, ◌+◌, length, drop}
use Rattle.c_board.specs.SendingAll.{total_of}
use Rattle.c_board.proofs.sending_all.add_up.Given as goal

abbrev pub invariant-loop-its : goal.invariant-loop-its
invariant-loop-its l = length l.bytes + total_of (drop l.its-index l.lengths) ≡ l.left + total_of l.lengths
