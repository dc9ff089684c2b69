use Rattle.std.proofs.Common.{◌≡◌, ◌≤◌, ◌++◌, ℕ, List, length, map, vec_capacity}
use Rattle.std.specs.Prelude.{All}
use Rattle.std.specs.Vec.Iter.{into_iter_items, into_iter_len}
use Rattle.chart.specs.declared.history.Occurrence.{Occurrence}
use Rattle.board.specs.Gathering.{left_view, left_on}
use Rattle.board.specs.Parting.{room_lane, IsLaneRoom, AreReady}
use Rattle.board.proofs.parting.take_lanes.Given as goal

abbrev pub invariant-loop-room : goal.invariant-loop-room
invariant-loop-room l = record {
  all : l.yielded ++ into_iter_items l.room-iterator ≡ into_iter_items l.initial.room-iterator;
  rest : into_iter_len l.room-iterator ≡ length (into_iter_items l.room-iterator);
  enough : length (into_iter_items l.initial.room-iterator) ≤ vec_capacity l.left;
  many : length l.left.items ≡ length l.yielded;
  drained : (n k : ℕ) (h : List Occurrence) → AreReady n k l.words.table_id h (map room_lane (into_iter_items l.initial.room-iterator)) l.initial.leavers → All (IsLaneRoom h n k) (into_iter_items l.initial.room-iterator)
      → AreReady n k l.words.table_id h (map room_lane (into_iter_items l.room-iterator)) l.leavers × All (IsLaneRoom h n k) (into_iter_items l.room-iterator) × (map left_view l.left.items ≡ map (left_on h) (map room_lane l.yielded));
}
