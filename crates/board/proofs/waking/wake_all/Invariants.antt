use Rattle.std.proofs.Common.{◌≡◌, ◌≤◌, ◌+◌, ◌++◌, length, vec_capacity}
use Rattle.std.specs.Vec.Iter.{into_iter_items, into_iter_len}
use Rattle.board.proofs.waking.wake_all.Given as goal

abbrev pub invariant-loop-post : goal.invariant-loop-post
invariant-loop-post l = record {
  all : l.awake.items ++ into_iter_items l.post-iterator ≡ into_iter_items l.initial.post-iterator;
  rest : into_iter_len l.post-iterator ≡ length (into_iter_items l.post-iterator);
  room : length l.awake.items + length (into_iter_items l.post-iterator) ≤ vec_capacity l.awake;
}
