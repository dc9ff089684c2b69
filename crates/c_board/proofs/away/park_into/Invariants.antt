use Rattle.std.proofs.Common.{◌≡◌, ◌≤◌, ◌+◌, ◌++◌, length, vec_capacity}
use Rattle.std.specs.Vec.Iter.{into_iter_items, into_iter_len}
use Rattle.c_board.proofs.away.park_into.Given as goal

abbrev pub invariant-loop-post : goal.invariant-loop-post
invariant-loop-post l = record {
  all : l.parked.items ++ into_iter_items l.post-iterator ≡ into_iter_items l.initial.post-iterator;
  rest : into_iter_len l.post-iterator ≡ length (into_iter_items l.post-iterator);
  room : length l.parked.items + length (into_iter_items l.post-iterator) ≤ vec_capacity l.parked;
}
