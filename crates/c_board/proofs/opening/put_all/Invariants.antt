use Rattle.std.proofs.Common.{◌≡◌, ◌++◌, length, take, drop}
use Rattle.std.specs.Vec.Iter.{into_iter_items, into_iter_len}
use Rattle.c_board.specs.Opening.{kept_by, all_of, values_of}
use Rattle.c_board.proofs.opening.put_all.Given as goal

abbrev pub invariant-loop-kept : goal.invariant-loop-kept
invariant-loop-kept l = record {
  put : kept_by l.handles ≡ take l.place (all_of (values_of (into_iter_items l.initial.kept-iterator))) ++ drop l.place (kept_by l.initial.handles);
  left : into_iter_items l.kept-iterator ≡ drop l.place (into_iter_items l.initial.kept-iterator);
  rest : into_iter_len l.kept-iterator ≡ length (into_iter_items l.kept-iterator);
}
