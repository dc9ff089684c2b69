use Rattle.std.proofs.Common.{◌∙◌}
use Rattle.std.specs.Vec.Iter.{into_iter_items}
use Rattle.board.proofs.AtBoard.{next_at}
use Rattle.board.proofs.waking.wake_all.Goals as goal

pub wake-requires : goal.wake-requires
wake-requires c = record {
  board = next_at _ _ c.args.posts.items c.loop-post.awake.items (into_iter_items c.loop-post.post-iterator) (into_iter_items c.next.new.self) c.in-Some.post c.requires.board (c.loop-post.invariant.all ∙ c.into_iter-post-iterator.ensures.into_iter_gives.0) c.in-Some.ensures.steps.0;
}
