use Rattle.std.proofs.Common.{◌≡◌, ◌≤◌, ◌+◌, ◌++◌, List, length}
use Rattle.std.specs.Vec.Iter.{into_iter_items, into_iter_len}
use Rattle.chart.specs.Histories.{sent}
use Rattle.chart.specs.Messages.{Content}
use Rattle.board_table.specs.declared.packet.Packet.{Packet}
use Rattle.board_table.specs.Knowing.{held, packets_out, vacant_out, IsFilling}
use Rattle.board.specs.SendingMany.{AreFilled}
use Rattle.board.proofs.FilledSlots.{GoesOn}
use Rattle.board.proofs.sending_several.fill_slots.Given as goal

abbrev pub invariant-loop-message : goal.invariant-loop-message
invariant-loop-message l = record {
  seated : l.seat.table_id ≡ l.words.table_id;
  filling : IsFilling l.lane l.seat.me;
  kept : held l.seat.me ≡ held l.initial.seat.me;
  room : length (into_iter_items l.message-iterator) ≤ vacant_out l.seat.me;
  rest : into_iter_len l.message-iterator ≡ length (into_iter_items l.message-iterator);
  put : l.put ≡ length (sent (held l.seat.me).seen l.lane.sender l.lane.receiver) + length (packets_out l.seat.me);
  many : l.put + length (into_iter_items l.message-iterator) ≡ l.initial.put + length (into_iter_items l.initial.message-iterator);
  goes : GoesOn l.lane.sender (length (into_iter_items l.message-iterator)) l.recorder;
  filled : (done : List Content) × (xs : List Packet) × (packets_out l.seat.me ≡ packets_out l.initial.seat.me ++ xs) × (done ++ into_iter_items l.message-iterator ≡ into_iter_items l.initial.message-iterator) × AreFilled l.initial.recorder.knowledge l.initial.recorder l.lane.receiver done xs l.recorder;
}
