use Rattle.schedule_replay.proofs.Posts.{none_lacks}
use Rattle.schedule_replay.proofs.run.gather_all.Goals as goal

pub unreachable-requires : goal.unreachable-requires
unreachable-requires c = none_lacks c.requires.all.0 c.args.posts.items c.requires.all.1 (rw c.in-NotAllPosts.is at c.in-Err.ensures).1
