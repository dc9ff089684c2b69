use Rattle.std.proofs.Common.{◌≡◌, ◌++◌, length, take, drop}
use Rattle.std.specs.Vec.Iter.{into_iter_items, into_iter_len}
use Rattle.std.specs.Iterator.Adapters.{zip_first, zip_second}
use Rattle.c_board.specs.Opening.{kept_by}
use Rattle.c_board.specs.Chairs.{seats_with, kept_seats}
use Rattle.c_board.proofs.taking.put_posts.Given as goal

abbrev pub invariant-loop-chair : goal.invariant-loop-chair
invariant-loop-chair l = record {
  put : kept_by l.handles ≡ take l.place (kept_seats (seats_with (into_iter_items (zip_first l.initial.chair-iterator)) (into_iter_items (zip_second l.initial.chair-iterator)))) ++ drop l.place (kept_by l.initial.handles);
  first : into_iter_items (zip_first l.chair-iterator) ≡ drop l.place (into_iter_items (zip_first l.initial.chair-iterator));
  second : into_iter_items (zip_second l.chair-iterator) ≡ drop l.place (into_iter_items (zip_second l.initial.chair-iterator));
  chairs : into_iter_len (zip_first l.chair-iterator) ≡ length (into_iter_items (zip_first l.chair-iterator));
  posts : into_iter_len (zip_second l.chair-iterator) ≡ length (into_iter_items (zip_second l.chair-iterator));
}
