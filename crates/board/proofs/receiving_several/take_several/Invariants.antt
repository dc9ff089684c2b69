use Rattle.std.proofs.Common.{◌≡◌, length}
use Rattle.board.specs.Receipts.{AreTaken}
use Rattle.board.proofs.receiving_several.take_several.Given as goal

-- one message is taken out in each turn
abbrev pub invariant-loop : goal.invariant-loop
invariant-loop l = record {
  table : l.seat.table_id ≡ l.words.table_id;
  taken : AreTaken l.lane l.region (record { me = l.initial.seat.me; end = l.initial.end; recorder = l.initial.recorder }) l.arrivals.items (record { me = l.seat.me; end = l.end; recorder = l.recorder });
  as_many : length l.arrivals.items ≡ l.counter;
}
