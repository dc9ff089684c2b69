use Rattle.std.proofs.Common.{◌≡◌, ◌≤◌, length, vec_capacity}
use Rattle.board.specs.Parting.{HasDrained}
use Rattle.board.proofs.parting.take_all.Given as goal

abbrev pub invariant-loop-place : goal.invariant-loop-place
invariant-loop-place l = record {
  table : l.seat.table_id ≡ l.words.table_id;
  drained : HasDrained l.lane l.taken l.many l.place l.initial.seat.me.1 l.seat.me.1 l.messages.items;
  reserved : l.many ≤ vec_capacity l.messages;
  counted : length l.messages.items ≡ l.place;
}
