use Rattle.std.proofs.Common.{◌≡◌}
use Rattle.board.specs.Boards.{FirstPosts, AreLeft}
use Rattle.board.proofs.opening.deal_posts.Given as goal

abbrev pub invariant-loop-place : goal.invariant-loop-place
invariant-loop-place l = record {
  posts : FirstPosts l.place (record { table = l.words.table_id; size = l.shape.instances; capacity = l.shape.capacity }) l.posts.items;
  seated : l.seat.table_id ≡ l.words.table_id;
  left : AreLeft l.shape.instances l.shape.capacity l.place l.seat.me;
}
