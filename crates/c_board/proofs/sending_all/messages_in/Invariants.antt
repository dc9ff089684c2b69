use Rattle.std.proofs.Common.{◌≡◌, ◌≤◌, ◌++◌, length, drop, vec_capacity}
use Rattle.c_board.specs.SendingAll.{contents_in, AreMessages}
use Rattle.c_board.proofs.sending_all.messages_in.Given as goal

abbrev pub invariant-loop-its : goal.invariant-loop-its
invariant-loop-its l = record {
  splits : contents_in l.bytes l.lengths ≡ l.messages.items ++ contents_in (drop l.start l.bytes) (drop l.its-index l.lengths);
  within : l.start ≤ length l.bytes;
  are : AreMessages l.messages.items;
  count : length l.messages.items ≡ l.its-index;
  room : length l.lengths ≤ vec_capacity l.messages;
}
