use Rattle.std.proofs.Common.{◌≡◌, ◌≤◌, ◌+◌, ◌++◌, length, vec_capacity}
use Rattle.std.specs.Vec.Iter.{into_iter_items, into_iter_len}
use Rattle.board.specs.Parked.{AreAtBoard}
use Rattle.c_board.specs.Opening.{seats_of, values_of}
use Rattle.c_board.proofs.opening.boxed_posts.Given as goal

abbrev pub invariant-loop-post : goal.invariant-loop-post
invariant-loop-post l = record {
  all : values_of l.boxes.items ++ seats_of l.board_number (into_iter_items l.post-iterator) ≡ seats_of l.board_number (into_iter_items l.initial.post-iterator);
  at : AreAtBoard l.fn.table.value.shared.key l.fn.table.value.shared.table_id (into_iter_items l.post-iterator);
  rest : into_iter_len l.post-iterator ≡ length (into_iter_items l.post-iterator);
  room : length l.boxes.items + length (into_iter_items l.post-iterator) ≤ vec_capacity l.boxes;
}
