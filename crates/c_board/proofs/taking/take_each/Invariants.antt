use Rattle.std.proofs.Common.{◌≡◌, ◌≤◌, ◌++◌, length, take, drop, vec_capacity}
use Rattle.c_board.specs.Opening.{kept_by}
use Rattle.c_board.specs.Chairs.{AreFit, seats_with, kept_seats}
use Rattle.c_board.proofs.ChairLemmas.{nones}
use Rattle.c_board.proofs.taking.take_each.Given as goal

abbrev pub invariant-loop-place : goal.invariant-loop-place
invariant-loop-place l = record {
  put : kept_by l.handles ≡ take l.place (nones (kept_by l.initial.handles)) ++ drop l.place (kept_by l.initial.handles);
  seats : kept_seats (seats_with l.chairs.items l.posts.items) ++ drop l.place (kept_by l.initial.handles) ≡ kept_by l.initial.handles;
  fit : AreFit l.chairs.items l.posts.items;
  chairs : length l.chairs.items ≡ l.place;
  posts : length l.posts.items ≡ l.place;
  room_chairs : length l.initial.handles ≤ vec_capacity l.chairs;
  room_posts : length l.initial.handles ≤ vec_capacity l.posts;
}
